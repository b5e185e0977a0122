-- One element of a list is changed. Assumes nothing.
use Rattle.std.proofs.Common.{◌≡◌, ℕ, zero, suc, ◌<◌, ◌≤◌, List, [], ◌∷◌, map, length, get_or, set, None, sym, refl, ap, ◌∙◌, arith}
use Rattle.octets.proofs.Options.{none-some}
use Rattle.pages.specs.Browser.{change, nth}

module _ {W X : Type 0} (g : W → X) where
  -- y is put at place i, where x stood
  pub change-set : (f : X → X) (ws : List W) (i : ℕ) (x y : W) → x ≡ get_or ws i x → g y ≡ f (g x) → i < length ws → map g (set ws i y) ≡ change i f (map g ws)
  unfolding change
  change-set f [] i x y r e h = absurd (omega arith)
  change-set f (w ∷ ws) zero x y r e h = ap (λ z. z ∷ map g ws) (e ∙ ap (λ z. f (g z)) r)
  change-set f (w ∷ ws) (suc i) x y r e h = ap (λ z. g w ∷ z) (change-set f ws i x y r e (omega arith))

  pub change-past : (f : X → X) (ws : List W) (i : ℕ) → length ws ≤ i → map g ws ≡ change i f (map g ws)
  unfolding change
  change-past f [] i h = refl
  change-past f (w ∷ ws) zero h = absurd (omega arith)
  change-past f (w ∷ ws) (suc i) h = ap (λ z. g w ∷ z) (change-past f ws i (omega arith))

pub change-none : {X : Type 0} (f : X → X) (xs : List X) (i : ℕ) → nth i xs ≡ None → change i f xs ≡ xs
unfolding change nth
change-none f [] i e = refl
change-none f (x ∷ xs) zero e = absurd (none-some x (sym e))
change-none f (x ∷ xs) (suc i) e = ap (λ z. x ∷ z) (change-none f xs i e)
