-- One place of a list is set. Assumes nothing.
use Rattle.std.proofs.Common.{◌≡◌, ℕ, ◌<◌, Bool, true, false, if◌then◌else◌, refl, List, map, length, get_or, set, sym, ap, ◌∙◌, ⊎_elim, arith}
use mathlib.Core.Path.{fun_ext}
use lib.ListN.{length-map}
use Rattle.std.proofs.lemmas.List.{map-set, get_or-set_same, get_or-set_other}
use Rattle.std.proofs.lemmas.Bool.{eq-eqb, ne_eqb, cond-true, cond-false, cases_eq}
use Rattle.pages.specs.Browser.{at}

-- a list as a function of the place, after one place is set
pub set_at : {X Y : Type 0} (f : X → Y) (d : Y) (xs : List X) (s n : ℕ) (x : X) → s ≡ n → s < length xs →
    (λ (t : ℕ). get_or (map f (set xs s x)) t d) ≡ at n (f x) (λ (t : ℕ). get_or (map f xs) t d)
set_at f d xs s n x e h = fun_ext (λ t. ap (λ z. get_or z t d) (map-set f xs s x) ∙ ⊎_elim
    (λ (q : t ≡ s). rw q (get_or-set_same (map f xs) s (f x) d (omega (arith, length-map xs f)) ∙ sym (cond-true _ _ _ (eq-eqb s n e))))
    (λ (q : t ≡ s → ⊥). get_or-set_other (map f xs) s t (f x) d q ∙ sym (cond-false _ _ _ (ne_eqb t n (λ r. q (r ∙ sym e)))))
    (cases_eq t s))

-- what stands at a place, put there again
at_same : {Y : Type 0} (n : ℕ) (f : ℕ → Y) → at n (f n) f ≡ f
at_same n f = fun_ext (λ t. ⊎_elim
    (λ (q : t ≡ n). cond-true _ _ _ (eq-eqb t n q) ∙ ap f (sym q))
    (λ (q : t ≡ n → ⊥). cond-false _ _ _ (ne_eqb t n q))
    (cases_eq t n))

-- a place is set, or stays as it is
pub at_if : {Y : Type 0} (b : Bool) (n : ℕ) (y : Y) (f : ℕ → Y) → at n (if b then y else f n) f ≡ (if b then at n y f else f)
at_if true n y f = refl
at_if false n y f = at_same n f
