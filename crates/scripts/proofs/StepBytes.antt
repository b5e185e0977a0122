-- Steps by their bytes and by their parts.
use Rattle.std.proofs.Common.{◌≡◌, ℕ, List, Some, Option, Decides, sym, refl, ap, ◌∙◌, get_or}
use Rattle.std.proofs.lemmas.Slice.Eq.{slice_eq-Decides}
use Rattle.std.proofs.lemmas.Bool.Decides.{Decides-eqb}
use Rattle.scripts.specs.declared.Step.{Step}
use Rattle.scripts.specs.declared.Step.TheVariants.{Constant, Move, Sum, Product, Equal, Less, Jump, JumpIf, Load, Store, Wait}
use Rattle.scripts.specs.declared.Call.{Call}
use Rattle.scripts.specs.declared.Call.TheVariants.{Nothing, Ask, Say, Keep, Look, Open}
use Rattle.scripts.specs.Page.{step_bytes, step_in, step_by}
use Rattle.scripts.specs.Same.{parts_of, call_parts, same_steps}

pub same_step : (a b : Step) → step_in (step_bytes a) ≡ Some a → step_in (step_bytes b) ≡ Some b → step_bytes a ≡ step_bytes b → a ≡ b
same_step a b p q e = let read : ◌≡◌ {A = Option Step} (Some a) (Some b) = sym p ∙ ap step_in e ∙ q in cc

-- the step that five parts are
by_parts : List ℕ → Option Step
by_parts xs = step_by (get_or xs 0 0) (get_or xs 1 0) (get_or xs 2 0) (get_or xs 3 0) (get_or xs 4 0)

call_back : (c : Call) → by_parts (call_parts c) ≡ Some (Wait c)
unfolding by_parts
call_back Nothing = refl
call_back (Ask site path body) = refl
call_back (Say window site bytes) = refl
call_back (Keep bytes) = refl
call_back Look = refl
call_back (Open site path) = refl

parts_back : (a : Step) → by_parts (parts_of a) ≡ Some a
unfolding by_parts
parts_back (Constant a number) = refl
parts_back (Move a b) = refl
parts_back (Sum a b c) = refl
parts_back (Product a b c) = refl
parts_back (Equal a b c) = refl
parts_back (Less a b c) = refl
parts_back (Jump number) = refl
parts_back (JumpIf a number) = refl
parts_back (Load a b) = refl
parts_back (Store a b) = refl
parts_back (Wait call) = call_back call

same_parts : (a b : Step) → parts_of a ≡ parts_of b → a ≡ b
same_parts a b e = let read : ◌≡◌ {A = Option Step} (Some a) (Some b) = sym (parts_back a) ∙ ap by_parts e ∙ parts_back b in cc

-- steps are the same where their parts are
pub steps_decide : (a b : Step) → Decides (same_steps a b) (a ≡ b)
steps_decide a b =
    let d = slice_eq-Decides Decides-eqb (parts_of a) (parts_of b) _ refl in
    (λ t. same_parts a b (d.0 t), λ e. d.1 (ap parts_of e))
