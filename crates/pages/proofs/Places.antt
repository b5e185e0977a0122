-- What stands at a place of a list, and at a site, after a change.
use Rattle.std.proofs.Common.{◌≡◌, ℕ, zero, suc, Bool, true, false, cond, eqb, List, [], ◌∷◌, ◌++◌, length, Some, None, Option, sym, refl, ap, ◌∙◌, subst, true≢false, arith, eq-eqb, ne_eqb, eqb-true}
use Rattle.pages.specs.Browser.{Word, Window, nth, change, hears, at}
use Rattle.pages.specs.Outs.{is_of}

module _ {A : Type 0} where
  pub some_one : (x y : A) → Some x ≡ Some y → x ≡ y
  some_one x y e = cc

  pub none-some : (y : A) → None ≡ Some y → ⊥
  none-some y e = let z : ◌≡◌ {A = ℕ} 0 1 = cc in omega arith

  pub nth-change : (i : ℕ) (f : A → A) (xs : List A) (x : A) → nth i xs ≡ Some x → nth i (change i f xs) ≡ Some (f x)
  unfolding nth change
  nth-change i f [] x e = absurd (none-some x e)
  nth-change zero f (y ∷ ys) x e = ap {B = Option A} (λ z. Some (f z)) (some_one y x e)
  nth-change (suc i) f (y ∷ ys) x e = nth-change i f ys x e

  pub nth-change_other : (i j : ℕ) (f : A → A) (xs : List A) → (i ≡ j → ⊥) → nth j (change i f xs) ≡ nth j xs
  unfolding nth change
  nth-change_other i j f [] n = refl
  nth-change_other zero zero f (y ∷ ys) n = absurd (n refl)
  nth-change_other zero (suc j) f (y ∷ ys) n = refl
  nth-change_other (suc i) zero f (y ∷ ys) n = refl
  nth-change_other (suc i) (suc j) f (y ∷ ys) n = nth-change_other i j f ys (λ e. n (ap suc e))

  pub nth-join : (j : ℕ) (xs zs : List A) (y : A) → nth j xs ≡ Some y → nth j (xs ++ zs) ≡ Some y
  unfolding nth
  nth-join j [] zs y e = absurd (none-some y e)
  nth-join zero (x ∷ xs) zs y e = e
  nth-join (suc j) (x ∷ xs) zs y e = nth-join j xs zs y e

  pub change-length : (i : ℕ) (f : A → A) (xs : List A) → length (change i f xs) ≡ length xs
  unfolding change
  change-length i f [] = refl
  change-length zero f (x ∷ xs) = refl
  change-length (suc i) f (x ∷ xs) = ap suc (change-length i f xs)

  pub at_here : (t : ℕ) (a : A) (f : ℕ → A) → at t a f t ≡ a
  at_here t a f = rw (eq-eqb t t refl)

  pub at_there : (t : ℕ) (a : A) (f : ℕ → A) (s : ℕ) → eqb s t ≡ false → at t a f s ≡ f s
  at_there t a f s e = rw e

  -- put at a site of the group, it is seen by nobody else
  pub at_hidden : (h : ℕ → Bool) (t : ℕ) (a : A) (f : ℕ → A) → h t ≡ true → (s : ℕ) → h s ≡ false → at t a f s ≡ f s
  at_hidden h t a f e s n = at_there t a f s (ne_eqb s t (λ c. true≢false (sym e ∙ ap h (sym c) ∙ n)))

  -- what is the same for all but the group stays so, if the same is put there
  pub at_same : (h : ℕ → Bool) (t : ℕ) (a b : A) (f g : ℕ → A) → (h t ≡ false → a ≡ b) → ((s : ℕ) → h s ≡ false → f s ≡ g s) → (s : ℕ) → h s ≡ false → at t a f s ≡ at t b g s
  at_same h t a b f g m r s n = go (eqb s t) refl
    where
      go : (c : Bool) → eqb s t ≡ c → cond c a (f s) ≡ cond c b (g s)
      go true e = m (subst (λ z. h z ≡ false) (eqb-true s t e) n)
      go false e = r s n

module _ {S : Type 0} where
  -- a change that leaves windows their sites
  pub is_of-change : (t i j : ℕ) (f : Window S → Window S) (xs : List (Window S)) → ((x : Window S) → (f x).site ≡ x.site) → is_of t (nth j (change i f xs)) ≡ is_of t (nth j xs)
  unfolding nth change
  is_of-change t i j f [] h = refl
  is_of-change t zero zero f (y ∷ ys) h = ap (λ s. eqb s t) (h y)
  is_of-change t zero (suc j) f (y ∷ ys) h = refl
  is_of-change t (suc i) zero f (y ∷ ys) h = refl
  is_of-change t (suc i) (suc j) f (y ∷ ys) h = is_of-change t i j f ys h

  -- the window with number i, if there is one, is of site s
  abbrev pub Sited : ℕ → ℕ → List (Window S) → Type 0
  Sited i s xs = (x : Window S) → nth i xs ≡ Some x → x.site ≡ s

  pub sited_this : (i s : ℕ) (xs : List (Window S)) (x : Window S) → nth i xs ≡ Some x → x.site ≡ s → Sited i s xs
  sited_this i s xs x e h y d = ap (λ z. z.site) (some_one y x (sym d ∙ e)) ∙ h

  either_site : (b : Bool) (x y : Window S) → y.site ≡ x.site → (cond b y x).site ≡ x.site
  either_site true x y e = e
  either_site false x y e = refl

  pub hears-site : (s : ℕ) (m : Word) (x : Window S) → (hears s m x).site ≡ x.site
  hears-site s m x = either_site _ x _ refl

  pub hears-not : (s : ℕ) (m : Word) (x : Window S) → eqb x.site s ≡ false → hears s m x ≡ x
  hears-not s m x e = rw e
