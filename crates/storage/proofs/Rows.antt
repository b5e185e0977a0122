-- Rows of a table, and how long a host is. Assumes nothing.
use Rattle.std.proofs.Common.{◌≡◌, ℕ, zero, suc, ◌+◌, ◌*◌, ◌<◌, ◌≤◌, true, ltb, leb, List, [], ◌∷◌, ◌++◌, map, length, get_or, Some, None, IfSome, IfNone, codes, Option, sym, refl, ap, ◌∙◌, subst, ⊎_elim, arith}
use Rattle.std.specs.List.{AllWithin, HoldsAt}
use Rattle.std.specs.Option.{option_map}
use Rattle.std.proofs.lemmas.List.{take-append-drop, length-append, map_push}
use Rattle.std.proofs.lemmas.Bool.{and_from, and_parts, leb-true, le-leb, eqb-true, cond-true, cond-false, cases_Bool, true≢false}
use Rattle.octets.specs.declared.Class.TheVariants.{Label}
use Rattle.octets.specs.Classes.{has}
use Rattle.octets.specs.Fronts.{after, front, past}
use Rattle.octets.proofs.Fronts.{after-some}
use Rattle.octets.proofs.Options.{none-some, some_same, cond-some}
use Rattle.addresses.specs.Address.{label_ok, dot_then, labels, site_ok}
use Rattle.pages.specs.Sites.{Bytes}
use Rattle.pages.specs.Browser.{nth}
use Rattle.bounded.specs.Numbers.{number_of, below}
use Rattle.bounded.specs.declared.site.SiteNumber.{SiteNumber}
use Rattle.bounded.specs.Texts.{at_most}
use Rattle.bounded.specs.Fixed.{appended}
use Rattle.storage.specs.declared.table.Row.{Row}
use Rattle.storage.specs.Rows.{row_of, all_sites}

pub all_push : (t : List (Bytes × ℕ)) (s : Bytes × ℕ) → all_sites t ≡ true → site_ok s.0 s.1 ≡ true → all_sites (t ++ (s ∷ [])) ≡ true
unfolding all_sites
all_push [] s a ok = and_from _ _ ok refl
all_push (r ∷ t) s a ok = let h = and_parts (site_ok r.0 r.1) (all_sites t) a in and_from _ _ h.0 (all_push t s h.1 ok)

pub all-nth : (t : List (Bytes × ℕ)) (n : ℕ) (s : Bytes × ℕ) → all_sites t ≡ true → nth n t ≡ Some s → site_ok s.0 s.1 ≡ true
unfolding all_sites nth
all-nth [] n s a e = absurd (none-some s e)
all-nth (r ∷ t) zero s a e = sym (ap (λ z. site_ok z.0 z.1) (some_same r s e)) ∙ (and_parts (site_ok r.0 r.1) (all_sites t) a).0
all-nth (r ∷ t) (suc n) s a e = all-nth t n s (and_parts (site_ok r.0 r.1) (all_sites t) a).1 e

-- what stands at a place of a list, as f shows it
pub nth_here : {X Y : Type 0} (f : X → Y) (xs : List X) (n : ℕ) (x : X) → x ≡ get_or xs n x → n < length xs → nth n (map f xs) ≡ Some (f x)
unfolding nth
nth_here f [] n x e h = absurd (omega arith)
nth_here f (y ∷ xs) zero x e h = ap (λ z. Some (f z)) (sym e)
nth_here f (y ∷ xs) (suc n) x e h = nth_here f xs n x e (omega arith)

pub nth_past : {X Y : Type 0} (f : X → Y) (xs : List X) (n : ℕ) → length xs ≤ n → nth n (map f xs) ≡ None
unfolding nth
nth_past f [] n h = refl
nth_past f (x ∷ xs) zero h = absurd (omega arith)
nth_past f (x ∷ xs) (suc n) h = nth_past f xs n (omega arith)

-- what is found at a place stands there
nth_get : {X Y : Type 0} (f : X → Y) (xs : List X) (n : ℕ) (y : Y) → nth n (map f xs) ≡ Some y → (x : X) × (n < length xs) × ((d : X) → get_or xs n d ≡ x) × (f x ≡ y)
unfolding nth
nth_get f [] n y e = absurd (none-some y e)
nth_get f (x ∷ xs) zero y e = (x, omega arith, (λ d. refl), some_same (f x) y e)
nth_get f (x ∷ xs) (suc n) y e = let h = nth_get f xs n y e in (h.0, omega (arith, h.1), h.2, h.3)

pub nth_held : {X Y : Type 0} (f : X → Y) (xs : List X) (n : ℕ) (y : Y) → n < length xs → HoldsAt (λ x. f x ≡ y) xs n → nth n (map f xs) ≡ Some y
unfolding nth
nth_held f [] n y l h = absurd (omega arith)
nth_held f (x ∷ xs) zero y l h = ap (λ z. Some z) (h x)
nth_held f (x ∷ xs) (suc n) y l h = nth_held f xs n y (omega arith) h

-- a value that none of the first n stands for is not found there
pub not_below : {X Y : Type 0} (f : X → Y) (xs : List X) (n : ℕ) (y : Y) → AllWithin (λ x. f x ≡ y → ⊥) xs 0 n → (k : ℕ) → k < n → nth k (map f xs) ≡ Some y → ⊥
not_below f xs n y a k l e = let h = nth_get f xs k y e in a k h.0 (omega arith) l (ap f (h.2 h.0) ∙ h.3)

pub nowhere : {X Y : Type 0} (f : X → Y) (xs : List X) (y : Y) → AllWithin (λ x. f x ≡ y → ⊥) xs 0 (length xs) → (k : ℕ) → nth k (map f xs) ≡ Some y → ⊥
nowhere f xs y a k e = not_below f xs (length xs) y a k (nth_get f xs k y e).1 e

-- what holds of a number holds of the site's
pub of_number : (P : ℕ → Type 0) (n : ℕ) (r : Option SiteNumber) → option_map number_of r ≡ below 16 n → P n → IfSome r (λ x. P (number_of x))
of_number P n None e p = tt
of_number P n (Some x) e p = subst P (some_same n (number_of x) (cond-some (ltb n 16) (Some n) (number_of x) (sym e)).1) p

pub where_none : {A : Type 0} (P : Type 0) (r : Option A) → P → IfNone r P
where_none P None p = p
where_none P (Some x) p = tt

-- with one row more all are sites, if it is one
pub all_appended : (rows : List Row) (r : Row) → all_sites (map row_of rows) ≡ true → site_ok (row_of r).0 (row_of r).1 ≡ true → all_sites (map row_of (appended 16 r rows)) ≡ true
all_appended rows r a ok =
    let sites = λ (xs : List Row). all_sites (map row_of xs) in
    ⊎_elim
    (λ t. ap sites (cond-true _ _ _ t) ∙ ap all_sites (map_push row_of rows r) ∙ all_push (map row_of rows) (row_of r) a ok)
    (λ f. ap sites (cond-false _ _ _ f) ∙ a)
    (cases_Bool (ltb (length rows) 16))

-- bytes that are few enough are the ones that were given
pub at_most_is : (n : ℕ) (x bs : Bytes) → Some x ≡ at_most n bs → x ≡ bs
at_most_is n x bs e = sym (some_same bs x (cond-some (leb (length bs) n) (Some bs) x (sym e)).1)

-- k labels of 63 bytes and the dots between
dot_short : (k : ℕ) (s : List ℕ) (o : Option (List ℕ)) → after (codes ".") s ≡ o → dot_then (labels k) o s ≡ true → ((t : List ℕ) → labels k t ≡ true → length t + 1 ≤ 64 * k) → length s ≤ 64 * k
dot_short k s None q h rest = let z = eqb-true (length s) 0 h in omega arith
dot_short k s (Some t) q h rest = let z = ap length (after-some (codes ".") s t q) in let r = rest t h in omega arith

pub host_short : (k : ℕ) (s : List ℕ) → labels k s ≡ true → length s + 1 ≤ 64 * k
unfolding labels
host_short zero s e = absurd (true≢false (sym e))
host_short (suc k) s e =
    let whole : front (has Label) s ++ past (has Label) s ≡ s = take-append-drop _ s in
    let sum : length (front (has Label) s) + length (past (has Label) s) ≡ length s = sym (length-append (front (has Label) s) (past (has Label) s)) ∙ ap length whole in
    let h = and_parts (label_ok (front (has Label) s)) (dot_then (labels k) (after (codes ".") (past (has Label) s)) (past (has Label) s)) e in
    let few : length (front (has Label) s) ≤ 63 = leb-true (length (front (has Label) s)) 63 (and_parts (leb (length (front (has Label) s)) 63) _ (and_parts (ltb 0 (length (front (has Label) s))) _ h.0).1).0 in
    let r : length (past (has Label) s) ≤ 64 * k = dot_short k (past (has Label) s) (after (codes ".") (past (has Label) s)) refl h.1 (λ t. host_short k t) in
    omega arith

-- a site's host is no longer than a row has room for
pub site-fits : (host : Bytes) (port : ℕ) → site_ok host port ≡ true → at_most 511 host ≡ Some host
site-fits host port ok = let h : length host + 1 ≤ 512 = host_short 8 host (and_parts (labels 8 host) _ ok).0 in cond-true _ _ _ (le-leb (length host) 511 (omega arith))
