-- Pairs of digits, one after another.
use Rattle.std.proofs.Common.{◌≡◌, ℕ, ◌+◌, ◌*◌, ◌<◌, ◌≤◌, cond, ◌&&◌, leb, List, [], ◌∷◌, ◌++◌, length, get_or, Some, None, sym, refl, ap, ◌∙◌, ⊎_elim, append-nil, arith, w8, Fits}
use Rattle.std.proofs.lemmas.Bool.{cond-true, cond-false, lt-leb, le-leb, cases_Bool}
use Rattle.bounded.specs.Texts.{at_most}
use Rattle.octets.specs.Buffers.{written_from, count_from}
use Rattle.octets.proofs.Options.{none-some, some_same, cond-some}
use Rattle.std.proofs.ByRecursion.{All-from_get_or}
use Rattle.words.specs.Hex.{hex_of, is_hex, hex_value, pair_then, hex_then, hex_within, AllBytes}

-- one pair more
pub hex_some : (s t : List ℕ) (b : ℕ) → Some (b, t) ≡ pair_then s → (hex_then s ≡ (b ∷ (hex_then t).0, (hex_then t).1)) × (length t < length s)
hex_some [] t b e = absurd (none-some (b, t) (sym e))
hex_some (x ∷ []) t b e = absurd (none-some (b, t) (sym e))
hex_some (x ∷ (y ∷ s)) t b e =
    let h = cond-some (is_hex x && is_hex y) (Some (16 * hex_value x + hex_value y, s)) (b, t) (sym e) in
    let p = some_same (16 * hex_value x + hex_value y, s) (b, t) h.1 in
    let same : s ≡ t = ap (λ q. q.1) p in (
      cond-true _ _ _ h.0 ∙ (λ i. ((p i).0 ∷ (hex_then (p i).1).0, (hex_then (p i).1).1)),
      omega (arith, ap length same),
    )

-- no pair
pub hex_none : (s : List ℕ) → None ≡ pair_then s → hex_then s ≡ ([], s)
hex_none [] e = refl
hex_none (x ∷ []) e = refl
hex_none (x ∷ (y ∷ s)) e =
    ⊎_elim
    (λ t. absurd (none-some (16 * hex_value x + hex_value y, s) (e ∙ cond-true _ _ _ t)))
    (λ f. cond-false _ _ _ f)
    (cases_Bool (is_hex x && is_hex y))

-- the bytes at the front are f, and no pair follows
pub hex_stops : (n : ℕ) (s rest f : List ℕ) → hex_then s ≡ (f ++ (hex_then rest).0, (hex_then rest).1) → None ≡ pair_then rest → length f ≤ n → hex_within n s ≡ Some (f, rest)
hex_stops n s rest f e none short =
    let whole : hex_then s ≡ (f, rest) = e ∙ ap (λ q. (f ++ q.0, q.1)) (hex_none rest none) ∙ ap (λ l. (l, rest)) (append-nil f) in
    ap (λ q. cond (leb (length q.0) n) (Some (q.0, q.1)) None) whole ∙ cond-true _ _ _ (le-leb (length f) n short)

-- bytes that fit make a text
pub at_most-none : (n : ℕ) (bs : List ℕ) → length bs ≤ n → None ≡ at_most n bs → ⊥
at_most-none n bs short e = none-some bs (e ∙ cond-true _ _ _ (le-leb (length bs) n short))

pub at_most-some : (n : ℕ) (bs t : List ℕ) → Some t ≡ at_most n bs → t ≡ bs
at_most-some n bs t e = sym (some_same bs t (cond-some (leb (length bs) n) (Some bs) t (sym e)).1)

pub length_hex : (bs : List ℕ) → length (hex_of bs) ≡ 2 * length bs
length_hex [] = refl
length_hex (b ∷ bs) = omega (arith, length_hex bs)

-- what does not fit is not written
pub too_long : (from : ℕ) (t out : List ℕ) → length out < from + length t → (None ≡ count_from from t out) × (out ≡ written_from from t out)
too_long from t out h = let no = lt-leb (from + length t) (length out) h in (sym (cond-false _ _ _ no), sym (cond-false _ _ _ no))

-- what a slice of bytes holds
pub all-bytes : (bs : List ℕ) → ((i : ℕ) → Fits w8 (get_or bs i 0)) → AllBytes bs
all-bytes bs h = All-from_get_or (λ b. b < 256) bs 0 (λ i _. (h i).fits)
