-- Runs, step by step.
use Rattle.std.proofs.Common.{◌≡◌, ℕ, suc, ◌+◌, List, Some, None, Ok, Err, sym, ap, ◌∙◌, arith}
use Rattle.scripts.specs.declared.Step.{Step}
use Rattle.machine.specs.declared.Act.{Act}
use Rattle.machine.specs.declared.Machine.{Machine}
use Rattle.machine.specs.declared.OutOfRange.{OutOfRange}
use Rattle.machine.specs.Step.{Flow, After, after, step_of}
use Rattle.machine.specs.Turn.{while_on, runs}

pub none_left : (script : List Step) (k : ℕ) (m : Machine) (s : List ℕ) → k ≡ 0 → after (Ok None) m s ≡ runs script k m s
unfolding runs
none_left script k m s e = ap (λ n. runs script n m s) (sym e)

-- a run by what its first step left
module _ (script : List Step) (k fewer : ℕ) (m m' : Machine) (s s' : List ℕ) (flow : Flow) (more : fewer + 1 ≡ k) (left : after flow m' s' ≡ step_of script m s) where
  first : runs script k m s ≡ while_on flow (runs script fewer m' s') (after flow m' s')
  unfolding runs
  first =
      let some : k ≡ suc fewer = omega arith in
      ap (λ n. runs script n m s) some
      ∙ ap (λ (y : After). while_on y.flow (runs script fewer y.machine y.memory) y) (sym left)

  pub goes_on : flow ≡ Ok None → runs script fewer m' s' ≡ runs script k m s
  goes_on e = sym (first ∙ ap (λ f. while_on f (runs script fewer m' s') (after flow m' s')) e)

  pub waits_then : (act : Act) → flow ≡ Ok (Some act) → after (Ok (Some act)) m' s' ≡ runs script k m s
  waits_then act e = sym (first ∙ ap (λ f. while_on f (runs script fewer m' s') (after f m' s')) e)

  pub fails : (out : OutOfRange) → flow ≡ Err out → after (Err out) m' s' ≡ runs script k m s
  fails out e = sym (first ∙ ap (λ f. while_on f (runs script fewer m' s') (after f m' s')) e)
