-- Part of what is let out, of lists of at most one thing.
use Rattle.std.proofs.Common.{◌≡◌, Bool, true, false, Bor, cond, List, [], ◌∷◌, ◌++◌, Some, None, Option, sym, refl, ap, ◌∙◌, subst}
use Rattle.std.specs.Bool.{then_some}
use Rattle.std.specs.Option.{option_map}
use Rattle.std.proofs.lemmas.Bool.{cond-true, cond-false}
use Rattle.browser.specs.declared.values.Out.{Out as OutHere}
use Rattle.browser.specs.Values.{out_of, outs_of}
use Rattle.pages.specs.Outs.{Out, keep_only}

module _ (f : Out → Bool) (o : Option OutHere) where
  pub keep_none : o ≡ None → [] ≡ keep_only f (outs_of o)
  unfolding keep_only
  keep_none e = subst (λ z. [] ≡ keep_only f (outs_of z)) (sym e) refl

  pub keep_it : (x : OutHere) → o ≡ Some x → true ≡ f (out_of x) → out_of x ∷ [] ≡ keep_only f (outs_of o)
  unfolding keep_only
  keep_it x e t = subst (λ z. out_of x ∷ [] ≡ keep_only f (outs_of z)) (sym e) (sym (cond-true (f (out_of x)) _ _ (sym t)))

  pub leave_it : (x : OutHere) → o ≡ Some x → false ≡ f (out_of x) → [] ≡ keep_only f (outs_of o)
  unfolding keep_only
  leave_it x e t = subst (λ z. [] ≡ keep_only f (outs_of z)) (sym e) (sym (cond-false (f (out_of x)) _ _ (sym t)))

  -- what a test picks
  pub kept : (b : Bor OutHere) (r : Bool) → o ≡ Some b.now → r ≡ f (out_of b.now) → outs_of (option_map (λ (x : Bor OutHere). x.now) (then_some r b)) ≡ keep_only f (outs_of o)
  kept b true e t = keep_it b.now e t
  kept b false e t = leave_it b.now e t

keep_joined : {A : Type 0} (f : A → Bool) (xs ys : List A) → keep_only f xs ++ keep_only f ys ≡ keep_only f (xs ++ ys)
unfolding keep_only
keep_joined f [] ys = refl
keep_joined {A} f (x ∷ xs) ys = first (f x) (keep_joined f xs ys)
  where
    first : (b : Bool) → keep_only f xs ++ keep_only f ys ≡ keep_only f (xs ++ ys) → cond b (x ∷ keep_only f xs) (keep_only f xs) ++ keep_only f ys ≡ cond b (x ∷ keep_only f (xs ++ ys)) (keep_only f (xs ++ ys))
    first true e = ap {B = List A} (λ zs. x ∷ zs) e
    first false e = e

pub keep_both : {A : Type 0} (f : A → Bool) (us vs xs ys : List A) → us ≡ keep_only f xs → vs ≡ keep_only f ys → us ++ vs ≡ keep_only f (xs ++ ys)
keep_both f us vs xs ys p q = ap (λ z. z ++ vs) p ∙ ap (λ z. keep_only f xs ++ z) q ∙ keep_joined f xs ys
