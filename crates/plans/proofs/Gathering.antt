-- Lists that are gone through by place.
use Rattle.std.proofs.Common.{◌≡◌, ℕ, zero, suc, ◌+◌, ◌<◌, Bool, true, ltb, List, [], ◌∷◌, ◌++◌, map, length, get_or, take, Some, sym, ap, ◌∙◌, add-one, arith, length-take-le}
use lib.ListN.{length-map}
use Rattle.std.specs.List.{slice_get}
use Rattle.std.proofs.lemmas.Option.{slice_get-get_or}
use Rattle.std.proofs.lemmas.Bool.{and_parts, and_from, lt-ltb, cond-true}
use Rattle.octets.proofs.Options.{none-some, some_same}
use Rattle.settings.proofs.Places.{nth-within}
use Rattle.pages.specs.Sites.{Bytes}
use Rattle.storage.specs.Tables.{added, fits_in}
use Rattle.plans.specs.Fits.{each, AllSites, is_site}

-- What is so of each is so of the one at a place.
pub each_at : {A B : Type 0} (f : B → Bool) (g : A → B) (xs : List A) (i : ℕ) (x : A) → each f (map g xs) ≡ true → slice_get xs i ≡ Some x → f (g x) ≡ true
unfolding each
each_at f g [] i x h e = absurd (none-some x e)
each_at f g (y ∷ xs) zero x h e = ap (λ z. f (g z)) (sym (some_same y x e)) ∙ (and_parts (f (g y)) (each f (map g xs)) h).0
each_at f g (y ∷ xs) (suc i) x h e = each_at f g xs i x (and_parts (f (g y)) (each f (map g xs)) h).1 e

take-suc : {A B : Type 0} (g : A → B) (xs : List A) (i : ℕ) (x : A) → slice_get xs i ≡ Some x → take (suc i) (map g xs) ≡ take i (map g xs) ++ (g x ∷ [])
take-suc g [] i x e = absurd (none-some x e)
take-suc g (y ∷ xs) zero x e = ap (λ z. g z ∷ []) (some_same y x e)
take-suc g (y ∷ xs) (suc i) x e = ap (λ z. g y ∷ z) (take-suc g xs i x e)

-- One more is taken.
pub take_next : {A B : Type 0} (g : A → B) (xs : List A) (i : ℕ) (x : A) → slice_get xs i ≡ Some x → take (i + 1) (map g xs) ≡ take i (map g xs) ++ (g x ∷ [])
take_next g xs i x e = ap (λ n. take n (map g xs)) (add-one i) ∙ take-suc g xs i x e

-- What stands at a place of a slice.
pub stands : {A : Type 0} (zs xs : List A) → zs ≡ xs → (i : ℕ) (d : A) → i < length zs → slice_get xs i ≡ Some (get_or zs i d)
stands zs xs e i d w = ap (λ l. slice_get l i) (sym e) ∙ slice_get-get_or zs i d w

-- One site more is in the table.
pub sites-more : {A : Type 0} (g : A → Bytes × ℕ) (xs : List A) (i : ℕ) (x : A) → AllSites (map g xs) → slice_get xs i ≡ Some x → added (g x) (take i (map g xs)) ≡ take (i + 1) (map g xs)
sites-more g xs i x h e =
    let a : is_site (g x) ≡ true = each_at is_site g xs i x h.1 e in
    let w : i < length xs = nth-within xs i x e in
    let m = length-map xs g in
    let n : length (take i (map g xs)) < 16 = omega (arith, length-take-le i (map g xs) (omega arith), h.0) in
    cond-true (fits_in (g x) (take i (map g xs))) (take i (map g xs) ++ (g x ∷ [])) (take i (map g xs)) (and_from (is_site (g x)) (ltb (length (take i (map g xs))) 16) a (lt-ltb (length (take i (map g xs))) 16 n))
    ∙ sym (take_next g xs i x e)
