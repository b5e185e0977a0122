-- Lines written one after another.
use Rattle.std.proofs.Common.{◌≡◌, ℕ, zero, suc, ◌+◌, ◌<◌, ◌≤◌, List, [], ◌∷◌, ◌++◌, length, leb, get_or, take, drop, Some, None, sym, refl, ap, ◌∙◌, append_assoc, arith, length-append}
use Rattle.std.specs.List.{flat_map}
use Rattle.std.specs.Simd.{first_chunks}
use Rattle.std.proofs.lemmas.Bool.{cond-true, le-leb, leb-true}
use Rattle.std.proofs.lemmas.List.{take_at, length-take-le, at_drop_more}
use Rattle.octets.specs.Buffers.{written_from, count_from}
use Rattle.octets.proofs.Options.{none-some, cond-some, some_same}
use Rattle.script_lines.specs.declared.Row.{Row}
use Rattle.disassembler.specs.Lines.{line_then, row_in}
use Rattle.disassembler.specs.Texts.{row_line, rows_text}

-- a text that was written to a buffer from a place on
put_text : (at n : ℕ) (out after t : List ℕ) → at ≤ length out → Some n ≡ count_from at t out → after ≡ written_from at t out → (take n after ≡ take at out ++ t) × (n ≡ at + length t) × (n ≤ length out)
put_text at n out after t room p q =
    let h = cond-some (leb (at + length t) (length out)) (Some (at + length t)) n (sym p) in
    let n-is : n ≡ at + length t = sym (some_same _ _ h.1) in
    let fits : at + length t ≤ length out = leb-true _ _ h.0 in
    let done : length (take at out) ≡ at = length-take-le at out room in
    let whole : length (take at out ++ t) ≡ n = omega (arith, length-append (take at out) t) in
    let is : after ≡ (take at out ++ t) ++ drop (at + length t) out = q ∙ cond-true _ _ _ h.0 ∙ sym (append_assoc (take at out) t (drop (at + length t) out)) in
    (ap (take n) is ∙ take_at (take at out ++ t) _ n whole, n-is, omega arith)

-- the lines of eight bytes after eight bytes
pub rows_are : (n : ℕ) (bs : List ℕ) → flat_map row_line (first_chunks 8 n bs) ≡ rows_text n bs
unfolding rows_text
rows_are zero bs = refl
rows_are (suc n) bs = ap (λ t. row_line (take 8 bs) ++ t) (rows_are n (drop 8 bs))

-- one line more
pub rows_more : (rows : List (List ℕ)) (i at next : ℕ) (row : Row) (d out after text all : List ℕ) → i < length rows → row ≡ row_in (get_or rows i d) → text ≡ line_then row (10 ∷ []) → at ≤ length out → Some next ≡ count_from at text out → after ≡ written_from at text out → all ≡ take at out ++ flat_map row_line (drop i rows) → (all ≡ take next after ++ flat_map row_line (drop (i + 1) rows)) × (next ≡ at + length (line_then row (10 ∷ [])))
rows_more rows i at next row d out after text all h is spelled room p q was =
    let put = put_text at next out after text room p q in
    let rest = flat_map row_line (drop (i + 1) rows) in
    let line : text ≡ row_line (get_or rows i d) = spelled ∙ ap (λ r. line_then r (10 ∷ [])) is in (
      was
          ∙ ap (λ t. take at out ++ t) (at_drop_more (flat_map row_line) rows i d h ∙ ap (λ t. t ++ rest) (sym line))
          ∙ sym (append_assoc (take at out) text rest)
          ∙ ap (λ t. t ++ rest) (sym put.0),
      put.1 ∙ ap (λ t. at + length t) spelled,
    )

-- there is room for it
pub rows_room : {P : Type 0} (at : ℕ) (row : Row) (out text : List ℕ) → text ≡ line_then row (10 ∷ []) → at + length (line_then row (10 ∷ [])) ≤ length out → None ≡ count_from at text out → P
rows_room at row out text spelled room p =
    absurd (none-some (at + length text) (p ∙ cond-true _ _ _ (le-leb (at + length text) (length out) (omega (arith, ap length spelled)))))
