-- What is left to write, line by line. Assumes nothing.
use Rattle.std.proofs.Common.{◌≡◌, ℕ, zero, suc, ◌+◌, leb, List, [], ◌∷◌, ◌++◌, map, length, drop, Some, sym, refl, ap, ◌∙◌, append_assoc, arith, length-append}
use Rattle.std.specs.Option.{option_map}
use Rattle.std.specs.List.{slice_get}
use Rattle.std.proofs.lemmas.Bool.{cond-true, leb-true}
use Rattle.octets.specs.Buffers.{over, written_from, count_from}
use Rattle.octets.proofs.Options.{none-some, some_same, cond-some}
use Rattle.octets.proofs.Puts.{over-over}
use Rattle.settings.specs.Written.{ended}

pub nth-map : {X Y : Type 0} (f : X → Y) (xs : List X) (n : ℕ) → slice_get (map f xs) n ≡ option_map f (slice_get xs n)
nth-map f [] n = refl
nth-map f (x ∷ xs) zero = refl
nth-map f (x ∷ xs) (suc n) = nth-map f xs n

-- a list by its first element and the others
pub first_and : {X : Type 0} (xs ys : List X) (x : X) → Some x ≡ slice_get xs 0 → ys ≡ drop 1 xs → xs ≡ x ∷ ys
first_and [] ys x e q = absurd (none-some x (sym e))
first_and (z ∷ xs) ys x e q = let h : x ≡ z = cc in λ i. sym h i ∷ sym q i

pub ended-more : (l : List ℕ) (ls : List (List ℕ)) → ended (l ∷ ls) ≡ (l ++ (10 ∷ [])) ++ ended ls
ended-more l ls = sym (append_assoc l (10 ∷ []) (ended ls))

-- ls are the lines that are left, of which x is the first and ms are the others; p is x with its newline
module _ (ls ms : List (List ℕ)) (x p : List ℕ) (first : Some x ≡ slice_get ls 0) (others : ms ≡ drop 1 ls) (same : p ≡ x ++ (10 ∷ [])) where
  text : ended ls ≡ p ++ ended ms
  text = ap ended (first_and ls ms x first others) ∙ ended-more x ms ∙ ap (λ q. q ++ ended ms) (sym same)

  long : length (ended ls) ≡ length p + length (ended ms)
  long = ap length text ∙ length-append p (ended ms)

  pub put_line : (at next : ℕ) (out new : List ℕ) → Some next ≡ count_from at p out → new ≡ written_from at p out → (over at out (ended ls) ≡ over next new (ended ms)) × (next + length (ended ms) ≡ at + length (ended ls))
  put_line at next out new e q =
      let h = cond-some (leb (at + length p) (length out)) (Some (at + length p)) next (sym e) in
      let place : at + length p ≡ next = some_same (at + length p) next h.1 in
      let now : new ≡ over at out p = q ∙ cond-true _ _ _ h.0 in (
        ap (over at out) text ∙ sym (over-over at out p (ended ms) (leb-true (at + length p) (length out) h.0)) ∙ (λ i. over (place i) (sym now i) (ended ms)),
        omega (arith, long),
      )
