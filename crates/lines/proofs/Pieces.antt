-- The pieces of lines, written one after another. Assumes nothing.
use Rattle.std.proofs.Common.{◌≡◌, ℕ, ◌+◌, ◌≤◌, leb, List, ◌++◌, length, take, drop, IfSome, Some, None, Option, sym, ap, ◌∙◌, subst, ⊎_elim}
use Rattle.std.proofs.lemmas.List.{take_at}
use Rattle.std.proofs.lemmas.Bool.{cond-true, cond-false, cases_Bool, le-leb}
use Rattle.octets.specs.Buffers.{over, written, count, written_from, count_from}
use Rattle.octets.proofs.Options.{none-some, some_same}

-- one text more, in pieces ps, from a place on
pub put_more : (at next : ℕ) (out new p ps : List ℕ) → ps ≡ p → at + length p ≤ length out → Some next ≡ count_from at ps out → new ≡ written_from at ps out → (next ≡ at + length p) × (new ≡ over at out p)
put_more at next out new p ps e h a w =
    let fits = le-leb (at + length p) (length out) h in
    (some_same next (at + length p) (a ∙ ap (λ t. count_from at t out) e ∙ cond-true _ _ _ fits), w ∙ ap (λ t. written_from at t out) e ∙ cond-true _ _ _ fits)

-- what was written stands at the front of the buffer
front-written : (t out : List ℕ) (n : ℕ) → Some n ≡ count t out → take n (written t out) ≡ t
front-written t out n e =
    ⊎_elim
    (λ y. let size : n ≡ length t = some_same n (length t) (e ∙ cond-true (leb (length t) (length out)) (Some (length t)) None y) in
    (λ i. take n (cond-true (leb (length t) (length out)) (t ++ drop (length t) out) out y i)) ∙ take_at t (drop (length t) out) n (sym size))
    (λ y. absurd (none-some n (sym (e ∙ cond-false (leb (length t) (length out)) (Some (length t)) None y))))
    (cases_Bool (leb (length t) (length out)))

-- what holds of a text holds of what was written
pub of_written : (P : List ℕ → Type 0) (t out after : List ℕ) (r : Option ℕ) → r ≡ count t out → after ≡ written t out → P t → IfSome r (λ n. P (take n after))
of_written P t out after None e w p = tt
of_written P t out after (Some n) e w p = subst P (sym (ap (take n) w ∙ front-written t out n e)) p
