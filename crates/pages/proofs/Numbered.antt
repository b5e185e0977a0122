-- The windows of a site with their numbers: what a change of one window, and a window more, make of them.
use Rattle.std.proofs.Common.{◌≡◌, ℕ, zero, suc, ◌+◌, ◌<◌, Bool, true, false, cond, eqb, List, [], ◌∷◌, ◌++◌, length, Some, sym, refl, ap, ◌∙◌, true≢false, append-nil, arith, eq-eqb, ne_eqb}
use Rattle.pages.specs.Browser.{Word, Window, nth, change, hears}
use Rattle.pages.specs.Views.{of_site, change_at}
use Rattle.pages.proofs.Places.{hears-site, hears-not, Sited}

module _ {S : Type 0} where
  -- f leaves windows their sites
  abbrev pub KeepsSite : (Window S → Window S) → Type 0
  KeepsSite f = (x : Window S) → (f x).site ≡ x.site

  -- one window before the others, if it is of the site
  abbrev before : Bool → ℕ → Window S → List (ℕ × Window S) → List (ℕ × Window S)
  before b k x xs = cond b ((k, x) ∷ xs) xs

  -- a change that doesn't change the site's own windows
  pub of_site-same :
      (v k i : ℕ) (f : Window S → Window S) (xs : List (Window S)) → KeepsSite f → ((x : Window S) → nth i xs ≡ Some x → eqb x.site v ≡ true → f x ≡ x) →
      of_site v k (change i f xs) ≡ of_site v k xs
  unfolding nth change of_site
  of_site-same v k i f [] s h = refl
  of_site-same v k zero f (y ∷ ys) s h = ap (λ z. before (eqb z v) k (f y) (of_site v (suc k) ys)) (s y) ∙ go (eqb y.site v) refl
    where
      go : (b : Bool) → eqb y.site v ≡ b → before b k (f y) (of_site v (suc k) ys) ≡ before b k y (of_site v (suc k) ys)
      go true e = ap {B = List (ℕ × Window S)} (λ z. (k, z) ∷ of_site v (suc k) ys) (h y refl e)
      go false e = refl
  of_site-same v k (suc i) f (y ∷ ys) s h = ap (before (eqb y.site v) k y) (of_site-same v (suc k) i f ys s h)

  -- a change at number n, where the first has number k
  change_at_first : (b : Bool) (k n : ℕ) (f : Window S → Window S) (y : Window S) (xs : List (ℕ × Window S)) → k ≡ n → change_at n f (before b k y xs) ≡ before b k (f y) (change_at n f xs)
  unfolding change_at
  change_at_first true k n f y xs e = ap (λ b. cond b ((k, f y) ∷ change_at n f xs) ((k, y) ∷ change_at n f xs)) (eq-eqb k n e)
  change_at_first false k n f y xs e = refl

  change_at_later : (b : Bool) (k n : ℕ) (f : Window S → Window S) (y : Window S) (xs : List (ℕ × Window S)) → (k ≡ n → ⊥) → change_at n f (before b k y xs) ≡ before b k y (change_at n f xs)
  unfolding change_at
  change_at_later true k n f y xs d = ap (λ b. cond b ((k, f y) ∷ change_at n f xs) ((k, y) ∷ change_at n f xs)) (ne_eqb k n d)
  change_at_later false k n f y xs d = refl

  -- numbers count from k on, so a change below k changes nothing
  change_at-below : (v k n : ℕ) (f : Window S → Window S) (xs : List (Window S)) → n < k → change_at n f (of_site v k xs) ≡ of_site v k xs
  unfolding of_site change_at
  change_at-below v k n f [] l = refl
  change_at-below v k n f (y ∷ ys) l =
      change_at_later (eqb y.site v) k n f y (of_site v (suc k) ys) (λ e. omega arith)
      ∙ ap (before (eqb y.site v) k y) (change_at-below v (suc k) n f ys (omega arith))

  -- a change of the window at i is a change of the one with number k + i
  change-at : (v k i n : ℕ) (f : Window S → Window S) (xs : List (Window S)) → KeepsSite f → n ≡ k + i → of_site v k (change i f xs) ≡ change_at n f (of_site v k xs)
  unfolding change of_site change_at
  change-at v k i n f [] s e = refl
  change-at v k zero n f (y ∷ ys) s e =
      ap (λ z. before (eqb z v) k (f y) (of_site v (suc k) ys)) (s y)
      ∙ ap (before (eqb y.site v) k (f y)) (sym (change_at-below v (suc k) n f ys (omega arith)))
      ∙ sym (change_at_first (eqb y.site v) k n f y (of_site v (suc k) ys) (omega arith))
  change-at v k (suc i) n f (y ∷ ys) s e =
      ap (before (eqb y.site v) k y) (change-at v (suc k) i n f ys s (omega arith))
      ∙ sym (change_at_later (eqb y.site v) k n f y (of_site v (suc k) ys) (λ d. omega arith))

  -- from number 0 on
  pub of_site-at : (v i : ℕ) (f : Window S → Window S) (xs : List (Window S)) → KeepsSite f → of_site v 0 (change i f xs) ≡ change_at i f (of_site v 0 xs)
  of_site-at v i f xs s = change-at v 0 i i f xs s (omega arith)

  before-join : (b : Bool) (k : ℕ) (x : Window S) (xs ys : List (ℕ × Window S)) → before b k x (xs ++ ys) ≡ before b k x xs ++ ys
  before-join true k x xs ys = refl
  before-join false k x xs ys = refl

  join-at : (v k n : ℕ) (xs : List (Window S)) (y : Window S) → n ≡ k + length xs → of_site v k (xs ++ (y ∷ [])) ≡ of_site v k xs ++ before (eqb y.site v) n y []
  unfolding of_site
  join-at v k n [] y e = let d : k ≡ n = omega arith in ap (λ m. before (eqb y.site v) m y []) d
  join-at v k n (x ∷ xs) y e =
      ap (before (eqb x.site v) k x) (join-at v (suc k) n xs y (omega arith))
      ∙ before-join (eqb x.site v) k x (of_site v (suc k) xs) (before (eqb y.site v) n y [])

  -- a window more, of this site or of another, has the next number
  pub of_site-join : (v : ℕ) (xs : List (Window S)) (y : Window S) → (b : Bool) → eqb y.site v ≡ b → of_site v 0 (xs ++ (y ∷ [])) ≡ cond b (of_site v 0 xs ++ ((length xs, y) ∷ [])) (of_site v 0 xs)
  of_site-join v xs y b e = join-at v 0 (length xs) xs y (omega arith) ∙ ap (λ c. of_site v 0 xs ++ before c (length xs) y []) e ∙ go b
    where
      go : (c : Bool) → of_site v 0 xs ++ before c (length xs) y [] ≡ cond c (of_site v 0 xs ++ ((length xs, y) ∷ [])) (of_site v 0 xs)
      go true = refl
      go false = append-nil (of_site v 0 xs)

  -- a window of site s is changed
  pub of_site-own :
      (v i s : ℕ) (f : Window S → Window S) (xs : List (Window S)) → KeepsSite f → Sited i s xs → (b : Bool) → eqb s v ≡ b →
      of_site v 0 (change i f xs) ≡ cond b (change_at i f (of_site v 0 xs)) (of_site v 0 xs)
  of_site-own v i s f xs k h true e = of_site-at v i f xs k
  of_site-own v i s f xs k h false e = of_site-same v 0 i f xs k (λ x at_x t. absurd (true≢false (sym t ∙ ap (λ z. eqb z v) (h x at_x) ∙ e)))

  -- a word for a window of another site, or for none
  pub of_site-unheard :
      (v j t : ℕ) (m : Word) (xs : List (Window S)) → ((x : Window S) → nth j xs ≡ Some x → eqb x.site v ≡ true → eqb x.site t ≡ false) →
      of_site v 0 (change j (hears t m) xs) ≡ of_site v 0 xs
  of_site-unheard v j t m xs h = of_site-same v 0 j (hears t m) xs (hears-site t m) (λ x at_x e. hears-not t m x (h x at_x e))
