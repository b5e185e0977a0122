-- Rows of windows that are the same but for a group, place by place: under a change, at a place, joined; and the same said by views.
use Rattle.std.proofs.Common.{◌≡◌, ℕ, zero, suc, Bool, true, false, cond, eqb, List, [], ◌∷◌, ◌++◌, length, Some, None, Option, sym, refl, ap, ◌∙◌, subst, true≢false, eq-eqb, eqb-true}
use mathlib.Core.Bool.{false≢true}
use Rattle.pages.specs.Browser.{Window, nth, change}
use Rattle.pages.specs.Outs.{Group}
use Rattle.pages.specs.Views.{row, of_site}
use Rattle.pages.proofs.Places.{some_one}

-- two windows: of one site of the group, or one and the same
pub data SameWindow {S : Type 0} (h : Group) : Window S → Window S → Type 0 where
  both_own : {x y : Window S} → h x.site ≡ true → x.site ≡ y.site → SameWindow h x y
  one_other : {x : Window S} → h x.site ≡ false → SameWindow h x x

pub data SameBut {S : Type 0} (h : Group) : List (Window S) → List (Window S) → Type 0 where
  none : SameBut h [] []
  pair : {x y : Window S} {xs ys : List (Window S)} → SameWindow h x y → SameBut h xs ys → SameBut h (x ∷ xs) (y ∷ ys)

pub data SameFound {S : Type 0} (h : Group) : Option (Window S) → Option (Window S) → Type 0 where
  nobody : SameFound h None None
  somebody : {x y : Window S} → SameWindow h x y → SameFound h (Some x) (Some y)

module _ {S : Type 0} {h : Group} where
  pub same_window : (x : Window S) → SameWindow h x x
  same_window x = go (h x.site) refl
    where
      go : (b : Bool) → h x.site ≡ b → SameWindow h x x
      go true e = both_own e refl
      go false e = one_other e

  flip : {x y : Window S} → SameWindow h x y → SameWindow h y x
  flip (both_own a b) = both_own (ap h (sym b) ∙ a) (sym b)
  flip (one_other a) = one_other a

  chain : {x y z : Window S} → SameWindow h x y → SameWindow h y z → SameWindow h x z
  chain (both_own a b) (both_own c d) = both_own a (b ∙ d)
  chain (both_own a b) (one_other c) = both_own a b
  chain (one_other a) s = s

  pub same_site_lem : {x y : Window S} → SameWindow h x y → x.site ≡ y.site
  same_site_lem (both_own a b) = b
  same_site_lem (one_other a) = refl

  pub same_refl : (xs : List (Window S)) → SameBut h xs xs
  same_refl [] = none
  same_refl (x ∷ xs) = pair (same_window x) (same_refl xs)

  pub same_sym : {xs ys : List (Window S)} → SameBut h xs ys → SameBut h ys xs
  same_sym none = none
  same_sym (pair s r) = pair (flip s) (same_sym r)

  pub same_trans : {xs ys zs : List (Window S)} → SameBut h xs ys → SameBut h ys zs → SameBut h xs zs
  same_trans none none = none
  same_trans (pair s r) (pair s' r') = pair (chain s s') (same_trans r r')

  pub same_length : {xs ys : List (Window S)} → SameBut h xs ys → length xs ≡ length ys
  same_length none = refl
  same_length (pair s r) = ap suc (same_length r)

  pub same_join : {xs ys cs ds : List (Window S)} → SameBut h xs ys → SameBut h cs ds → SameBut h (xs ++ cs) (ys ++ ds)
  same_join none s = s
  same_join (pair a r) s = pair a (same_join r s)

  pub same_nth : {xs ys : List (Window S)} (i : ℕ) → SameBut h xs ys → SameFound h (nth i xs) (nth i ys)
  unfolding nth
  same_nth i none = nobody
  same_nth zero (pair s r) = somebody s
  same_nth (suc i) (pair s r) = same_nth i r

  -- what is the same stays so, if what is put at the place is
  pub same_change :
      {xs ys : List (Window S)} (i : ℕ) (f g : Window S → Window S) →
      ((x y : Window S) → nth i xs ≡ Some x → nth i ys ≡ Some y → SameWindow h x y → SameWindow h (f x) (g y)) →
      SameBut h xs ys → SameBut h (change i f xs) (change i g ys)
  unfolding nth change
  same_change i f g m none = none
  same_change zero f g m (pair {x} {y} s r) = pair (m x y refl refl s) r
  same_change (suc i) f g m (pair s r) = pair s (same_change i f g m r)

  -- windows that keep their sites, and to which the same is done outside the group
  pub same-done :
      (f g : Window S → Window S) → ((x : Window S) → (f x).site ≡ x.site) → ((x : Window S) → (g x).site ≡ x.site) →
      (x y : Window S) → (h x.site ≡ false → f x ≡ g x) → SameWindow h x y → SameWindow h (f x) (g y)
  same-done f g hf hg x y m (both_own a b) = both_own (ap h (hf x) ∙ a) (hf x ∙ b ∙ sym (hg y))
  same-done f g hf hg x y m (one_other n) = subst (λ z. SameWindow h (f x) z) (m n) (one_other (ap h (hf x) ∙ n))

pub change_id : {S : Type 0} (i : ℕ) (xs : List (Window S)) → change i (λ x. x) xs ≡ xs
unfolding change
change_id i [] = refl
change_id zero (x ∷ xs) = refl
change_id {S} (suc i) (x ∷ xs) = ap {B = List (Window S)} (λ r. x ∷ r) (change_id i xs)

-- a change that nobody outside the group sees
pub hidden_change : {S : Type 0} {h : Group} (i : ℕ) (f : Window S → Window S) (xs : List (Window S)) → ((x : Window S) → nth i xs ≡ Some x → SameWindow h (f x) x) → SameBut h (change i f xs) xs
hidden_change {S} {h} i f xs m =
    subst (λ ys. SameBut h (change i f xs) ys) (change_id i xs)
    (same_change i f (λ x. x) (λ x y e d s. subst (λ z. SameWindow h (f x) z) (some_one x y (sym e ∙ d)) (m x e)) (same_refl xs))

module _ {S : Type 0} where
  heads_same : (k : ℕ) (x y : Window S) (us vs : List (ℕ × Window S)) (b c : Bool) → b ≡ c → cond b ((k, x) ∷ us) us ≡ cond c ((k, y) ∷ vs) vs → us ≡ vs
  heads_same k x y us vs true true e d = cc
  heads_same k x y us vs false false e d = d
  heads_same k x y us vs true false e d = absurd (true≢false e)
  heads_same k x y us vs false true e d = absurd (false≢true e)

  first_same : (k : ℕ) (x y : Window S) (us vs : List (ℕ × Window S)) (b c : Bool) → b ≡ true → c ≡ true → cond b ((k, x) ∷ us) us ≡ cond c ((k, y) ∷ vs) vs → x ≡ y
  first_same k x y us vs true true e d f = let g : ◌≡◌ {A = ℕ × Window S} (k, x) (k, y) = cc in ap {B = Window S} (λ z. z.1) g
  first_same k x y us vs false c e d f = absurd (false≢true e)
  first_same k x y us vs true false e d f = absurd (false≢true d)

-- BY VIEWS: the same row of sites, and the same windows of each site outside the group
module _ {S : Type 0} {h : Group} where
  pub same_row : {xs ys : List (Window S)} → SameBut h xs ys → row xs ≡ row ys
  unfolding row
  same_row none = refl
  same_row (pair {x} {y} {xs} {ys} s r) = let a : x.site ≡ y.site = same_site_lem s in let b : row xs ≡ row ys = same_row r in cc

  pub same_views : {xs ys : List (Window S)} → SameBut h xs ys → (v : ℕ) → h v ≡ false → (k : ℕ) → of_site v k xs ≡ of_site v k ys
  unfolding of_site
  same_views none v n k = refl
  same_views (pair {x} (one_other a) r) v n k =
      ap {B = List (ℕ × Window S)} (λ z. cond (eqb x.site v) ((k, x) ∷ z) z) (same_views r v n (suc k))
  same_views (pair {x} {y} {xs} {ys} (both_own a b) r) v n k =
      let not-x : eqb x.site v ≡ false = not_group x a in
      let not-y : eqb y.site v ≡ false = not_group y (ap h (sym b) ∙ a) in
      let rest : of_site v (suc k) xs ≡ of_site v (suc k) ys = same_views r v n (suc k) in
      rw (not-x, not-y) rest
    where
      not_group : (z : Window S) → h z.site ≡ true → eqb z.site v ≡ false
      not_group z e = go (eqb z.site v) refl
        where
          go : (b : Bool) → eqb z.site v ≡ b → b ≡ false
          go true d = absurd (true≢false (sym e ∙ ap h (eqb-true z.site v d) ∙ n))
          go false d = refl

  pub by_views : (k : ℕ) (xs ys : List (Window S)) → row xs ≡ row ys → ((v : ℕ) → h v ≡ false → of_site v k xs ≡ of_site v k ys) → SameBut h xs ys
  unfolding row of_site
  by_views k [] [] e m = none
  by_views k [] (y ∷ ys) e m = absurd (let z : ◌≡◌ {A = ℕ} 0 1 = cc in true≢false (ap (λ n. eqb n 1) (sym z)))
  by_views k (x ∷ xs) [] e m = absurd (let z : ◌≡◌ {A = ℕ} 0 1 = cc in true≢false (ap (λ n. eqb n 1) (sym z)))
  by_views k (x ∷ xs) (y ∷ ys) e m =
      let site : x.site ≡ y.site = cc in
      let rest : row xs ≡ row ys = cc in
      pair (head site (h x.site) refl) (by_views (suc k) xs ys rest (λ v n. heads_same k x y (of_site v (suc k) xs) (of_site v (suc k) ys) (eqb x.site v) (eqb y.site v) (ap (λ z. eqb z v) site) (m v n)))
    where
      head : x.site ≡ y.site → (b : Bool) → h x.site ≡ b → SameWindow h x y
      head site true d = both_own d site
      head site false d =
          subst (λ z. SameWindow h x z)
          (first_same k x y (of_site x.site (suc k) xs) (of_site x.site (suc k) ys) (eqb x.site x.site) (eqb y.site x.site) (eq-eqb x.site x.site refl) (eq-eqb y.site x.site (sym site)) (m x.site d))
          (one_other d)
