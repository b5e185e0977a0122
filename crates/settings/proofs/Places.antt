-- The number of a site, found one by one. Assumes nothing.
use Rattle.std.proofs.Common.{◌≡◌, ℕ, zero, suc, ◌+◌, ◌<◌, ◌≤◌, Bool, true, false, cond, not, eqb, ltb, leb, List, [], ◌∷◌, ◌++◌, map, length, Some, None, Decides, sym, refl, ap, ◌∙◌, ⊎_elim, arith, length-append}
use Rattle.std.specs.List.{slice_get, position_or_len}
use Rattle.std.specs.Str.{bytes_eq}
use Rattle.std.proofs.lemmas.Slice.Eq.{bytes_eq-Decides}
use Rattle.std.proofs.lemmas.List.{length-map}
use Rattle.std.proofs.lemmas.Bool.{and_from, and_parts, eq-eqb, eqb-true, cond-true, cond-false, cond_both, cases_Bool, le-ltb, ltb-false}
use Rattle.std.proofs.lemmas.Bool.Decides.{nat_tests}
use Rattle.octets.proofs.Options.{none-some}
use Rattle.addresses.specs.declared.Site.{Site}
use Rattle.addresses.specs.Views.{site_of, site_eq}
use Rattle.settings.specs.Settings.{same_site, place, number_of, named}

-- the test is equality
pub same_decides : (a b : List ℕ × ℕ) → Decides (same_site a b) (a ≡ b)
same_decides a b =
    let hosts = bytes_eq-Decides a.0 b.0 in (
      λ e. let p = and_parts (eqb a.1 b.1) (bytes_eq a.0 b.0) e in (λ i. (hosts.0 p.1 i, eqb-true a.1 b.1 p.0 i)),
      λ e. and_from (eqb a.1 b.1) (bytes_eq a.0 b.0) (eq-eqb a.1 b.1 (ap (λ x. x.1) e)) (hosts.1 (ap (λ x. x.0) e)),
    )

pub nth-within : {X : Type 0} (ys : List X) (n : ℕ) (y : X) → slice_get ys n ≡ Some y → n < length ys
nth-within [] n y e = absurd (none-some y e)
nth-within (z ∷ ys) zero y e = omega arith
nth-within (z ∷ ys) (suc n) y e = omega (arith, nth-within ys n y e)

pub place-within : (s : List ℕ × ℕ) (xs : List (List ℕ × ℕ)) → place s xs ≤ length xs
place-within s [] = omega arith
place-within s (x ∷ xs) = cond_both (same_site s x) 0 (1 + place s xs) (λ k. k ≤ length (x ∷ xs)) (λ _. omega arith) (λ _. omega (arith, place-within s xs))

-- a site that has no number yet
module _ (s : List ℕ × ℕ) (xs : List (List ℕ × ℕ)) (new : None ≡ number_of s xs) where
  new-place : place s xs ≡ length xs
  new-place =
      ⊎_elim
      (λ y. absurd (none-some (place s xs) (new ∙ cond-true (ltb (place s xs) (length xs)) (Some (place s xs)) None y)))
      (λ n. omega (arith, ltb-false (place s xs) (length xs) n, place-within s xs))
      (cases_Bool (ltb (place s xs) (length xs)))

  new_named : named s xs ≡ xs ++ (s ∷ [])
  new_named = cond-false _ _ _ (le-ltb (place s xs) (length xs) (omega (arith, new-place)))

-- a search by `==` finds the place
place-position : (s : Site) (xs : List Site) → position_or_len (site_eq s) xs ≡ place (site_of s) (map site_of xs)
place-position s [] = refl
place-position s (x ∷ xs) = other_way (site_eq s x) _ _ (place-position s xs)
  where
    other_way : (p : Bool) (m n : ℕ) → m ≡ n → cond (not p) (1 + m) 0 ≡ cond p 0 (1 + n)
    other_way true m n e = refl
    other_way false m n e = ap (λ k. 1 + k) e

pub number-position : (s : Site) (xs : List Site) → cond (ltb (position_or_len (site_eq s) xs) (length xs)) (Some (position_or_len (site_eq s) xs)) None ≡ number_of (site_of s) (map site_of xs)
number-position s xs = λ i. cond (ltb (place-position s xs i) (sym (length-map xs site_of) i)) (Some (place-position s xs i)) None

-- one more fits where there are fewer than 16
one_more : {X : Type 0} (xs : List X) (x : X) → leb (length (xs ++ (x ∷ []))) 16 ≡ ltb (length xs) 16
one_more xs x = let e = length-append xs (x ∷ []) in grind (arith, nat_tests)

-- a new site is put at the end of the table, if there is room
pub pushed_number : {X : Type 0} (f : X → List ℕ × ℕ) (x : X) (ys : List X) → None ≡ number_of (f x) (map f ys) →
    cond (ltb (length ys) 16) (Some (length ys)) None ≡ cond (leb (length (named (f x) (map f ys))) 16) (Some (place (f x) (map f ys))) None
pushed_number f x ys new =
    let room : ltb (length ys) 16 ≡ leb (length (named (f x) (map f ys))) 16 = sym (ap (λ l. leb (length l) 16) (new_named (f x) (map f ys) new) ∙ one_more (map f ys) (f x) ∙ ap (λ n. ltb n 16) (length-map ys f)) in
    λ i. cond (room i) (Some ((sym (length-map ys f) ∙ sym (new-place (f x) (map f ys) new)) i)) None
