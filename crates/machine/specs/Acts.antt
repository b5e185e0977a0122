-- What is known of an act that is done in a turn.
use Rattle.std.specs.Prelude.{◌≡◌, ℕ, ◌-◌, true, List, length, Some, slice_index_or}
use Rattle.scripts.specs.declared.Step.{Step}
use Rattle.scripts.specs.declared.Step.TheVariants.{Jump, Wait}
use Rattle.scripts.specs.declared.Call.{Call}
use Rattle.machine.specs.declared.Act.{Act}
use Rattle.machine.specs.declared.Machine.{Machine}
use Rattle.machine.specs.declared.Outcome.{Outcome}
use Rattle.machine.specs.declared.Outcome.TheVariants.{Did, Refused, Paused, Faulted, Idle}
use Rattle.machine.specs.Limits.{allowed, Within}
use Rattle.machine.specs.Step.{act_at}

-- the step before the next one is a wait, and the act is what it names by the registers as they are left
abbrev pub Named : Act → List Step → Machine → ℕ → Type 0
Named act script m size =
    (call : Call) × ((slice_index_or script (m.next - 1) (Jump 0) ≡ Wait call) × (act_at call m size ≡ Some act))

-- an act that is done is named by a wait, its bytes lie in the memory, and it is in its limits
pub record Done (act : Act) (sites : ℕ) (script : List Step) (m : Machine) (s : List ℕ) : Type 0 where
  pub named : Named act script m (length s)
  pub within : Within act (length s)
  pub permitted : allowed act sites s ≡ true

-- so it is in every turn
abbrev pub Acts : Outcome → ℕ → List Step → Machine → List ℕ → Type 0
Acts (Did act) sites script m s = Done act sites script m s
Acts Refused sites script m s = Unit {0}
Acts Paused sites script m s = Unit {0}
Acts Faulted sites script m s = Unit {0}
Acts Idle sites script m s = Unit {0}
