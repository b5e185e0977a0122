-- What stands at a place of a table of sites.
use Rattle.std.proofs.Common.{◌≡◌, ℕ, zero, suc, ◌+◌, ◌<◌, ◌≤◌, false, ltb, List, [], ◌∷◌, ◌++◌, length, take, Some, None, IfSome, IfNone, Option, sym, refl, ap, ◌∙◌, ⊎_elim, add-one, arith}
use Rattle.std.specs.Option.{option_map}
use Rattle.octets.proofs.Options.{none-some, some_same}
use Rattle.std.proofs.lemmas.List.{length-map, length-take}
use Rattle.std.proofs.lemmas.Bool.{cases_Bool, cond-true, cond-false, lt-ltb, le-ltb, ltb-false}
use Rattle.bounded.specs.Fixed.{items_of}
use Rattle.bounded.specs.Numbers.{below, number_of as site_number}
use Rattle.bounded.specs.declared.site.SiteNumber.{SiteNumber}
use Rattle.pages.specs.Browser.{nth}
use Rattle.settings.specs.Settings.{same_site, place, number_of}
use Rattle.settings.proofs.Places.{same_decides}
use Rattle.storage.specs.declared.table.Table.{Table}
use Rattle.storage.specs.Tables.{row_of, table_of, NotBelow}

-- there is nothing past the end
pub none-past : {X : Type 0} (xs : List X) (n : ℕ) → length xs ≤ n → None ≡ nth n xs
unfolding nth
none-past [] n h = refl
none-past (x ∷ xs) zero h = absurd (omega arith)
none-past (x ∷ xs) (suc n) h = none-past xs n (omega arith)

pub some-before : {X : Type 0} (xs : List X) (n : ℕ) → n < length xs → None ≡ nth n xs → ⊥
unfolding nth
some-before [] n h e = omega arith
some-before (x ∷ xs) zero h e = none-some x e
some-before (x ∷ xs) (suc n) h e = some-before xs n (omega arith) e

take-suc : {X : Type 0} (xs : List X) (n : ℕ) (x : X) → nth n xs ≡ Some x → take (suc n) xs ≡ take n xs ++ (x ∷ [])
unfolding nth
take-suc [] n x e = absurd (none-some x e)
take-suc (y ∷ xs) zero x e = ap (λ z. z ∷ []) (some_same y x e)
take-suc (y ∷ xs) (suc n) x e = ap (λ z. y ∷ z) (take-suc xs n x e)

pub take_next : {X : Type 0} (xs : List X) (n : ℕ) (x : X) → nth n xs ≡ Some x → take (n + 1) xs ≡ take n xs ++ (x ∷ [])
take_next xs n x e = ap (λ k. take k xs) (add-one n) ∙ take-suc xs n x e

-- a number that is no site's
pub past_16 : (n : ℕ) → None ≡ below 16 n → 16 ≤ n
past_16 n e =
    ⊎_elim
    (λ t. absurd (none-some n (e ∙ cond-true (ltb n 16) (Some n) None t)))
    (λ f. ltb-false n 16 f)
    (cases_Bool (ltb n 16))

-- a table has at most 16 sites
pub few : (t : Table) → length (table_of t) ≤ 16
few t = omega (arith, length-map (items_of t.rows) row_of, length-take t.rows.len t.rows.items, t.rows.fits)

-- there is no site at a number that is no site's
pub none_at : (t : Table) (n : ℕ) → None ≡ below 16 n → nth n (table_of t) ≡ None
none_at t n e = sym (none-past (table_of t) n (omega (arith, past_16 n e, few t)))

other : (s x : List ℕ × ℕ) → (s ≡ x → ⊥) → same_site s x ≡ false
other s x k = ⊎_elim (λ y. absurd (k ((same_decides s x).0 y))) (λ f. f) (cases_Bool (same_site s x))

-- the first place where a site stands
place_first : (s : List ℕ × ℕ) (xs : List (List ℕ × ℕ)) (n : ℕ) → nth n xs ≡ Some s → NotBelow n s xs → place s xs ≡ n
unfolding nth
place_first s [] n e b = absurd (none-some s e)
place_first s (x ∷ xs) zero e b = cond-true (same_site s x) 0 (1 + place s xs) ((same_decides s x).1 (sym (some_same x s e)))
place_first s (x ∷ xs) (suc n) e b =
    let rest : place s xs ≡ n = place_first s xs n e (λ k l f. b (suc k) (omega arith) f) in
    let here : place s (x ∷ xs) ≡ 1 + place s xs = cond-false (same_site s x) 0 (1 + place s xs) (other s x (λ q. b 0 (omega arith) (ap (λ z. Some z) (sym q)))) in
    omega (arith, rest, here)

-- there is none
place_none : (s : List ℕ × ℕ) (xs : List (List ℕ × ℕ)) → ((k : ℕ) → nth k xs ≡ Some s → ⊥) → place s xs ≡ length xs
unfolding nth
place_none s [] b = refl
place_none s (x ∷ xs) b =
    let rest : place s xs ≡ length xs = place_none s xs (λ k f. b (suc k) f) in
    let here : place s (x ∷ xs) ≡ 1 + place s xs = cond-false (same_site s x) 0 (1 + place s xs) (other s x (λ q. b 0 (ap (λ z. Some z) (sym q)))) in
    omega (arith, rest, here)

inside : {X : Type 0} (xs : List X) (n : ℕ) (x : X) → nth n xs ≡ Some x → n < length xs
unfolding nth
inside [] n x e = absurd (none-some x e)
inside (y ∷ xs) zero x e = omega arith
inside (y ∷ xs) (suc n) x e = omega (arith, inside xs n x e)

-- what a table finds is the number of the site
pub number_is : (t : Table) (s : List ℕ × ℕ) (r : Option SiteNumber) → IfSome r (λ n. nth (site_number n) (table_of t) ≡ Some s) → IfSome r (λ n. NotBelow (site_number n) s (table_of t)) → IfNone r (NotBelow 16 s (table_of t)) →
    option_map site_number r ≡ number_of s (table_of t)
number_is t s None a b n =
    let xs = table_of t in
    let past : place s xs ≡ length xs = place_none s xs (λ k e. n k (omega (arith, few t, inside xs k s e)) e) in
    sym (cond-false (ltb (place s xs) (length xs)) (Some (place s xs)) None (le-ltb (place s xs) (length xs) (omega (arith, past))))
number_is t s (Some x) a b n =
    let xs = table_of t in
    let is : place s xs ≡ site_number x = place_first s xs (site_number x) a b in
    sym (cond-true (ltb (place s xs) (length xs)) (Some (place s xs)) None (lt-ltb (place s xs) (length xs) (omega (arith, is, inside xs (site_number x) s a))) ∙ ap (λ z. Some z) is)
