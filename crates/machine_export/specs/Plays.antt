-- A script that is played for some turns.
use Rattle.std.specs.Prelude.{◌≡◌, ℕ, zero, suc, ◌+◌, List, Ok, Err, Result}
use Rattle.scripts.specs.declared.Step.{Step}
use Rattle.scripts.specs.declared.Unreadable.{Unreadable}
use Rattle.machine.specs.declared.Machine.{Machine}
use Rattle.machine.specs.declared.Told.TheVariants.{Heard}
use Rattle.machine.specs.declared.Outcome.{Outcome}
use Rattle.machine.specs.declared.Outcome.TheVariants.{Did, Refused, Paused, Faulted, Idle}
use Rattle.machine.specs.Turn.{fresh, Turned, turn_of}

-- 1 for a turn in which something is done
abbrev pub counts : Outcome → ℕ
counts (Did act) = 1
counts Refused = 0
counts Paused = 0
counts Faulted = 0
counts Idle = 0

-- in how many turns something was done, and what is left
pub record Played : Type 0 where
  pub done : ℕ
  pub machine : Machine
  pub memory : List ℕ

-- one such, from its parts
abbrev pub played : ℕ → Machine → List ℕ → Played
played done m s = record { done = done; machine = m; memory = s }

-- a turn more is counted
abbrev pub counted : ℕ → Turned → Played
counted done x = played (done + counts x.outcome) x.machine x.memory

-- one turn more, where 16 sites are named
abbrev pub once : List Step → List ℕ → Played → Played
once script bs x = counted x.done (turn_of 16 script (Heard 0) bs x.machine x.memory)

-- so many turns, each told the same
unfoldable pub plays : ℕ → List Step → List ℕ → Played → Played
plays zero script bs x = x
plays (suc k) script bs x = plays k script bs (once script bs x)

-- what is answered and left, by what the page is
abbrev pub Ran : Result (List Step) Unreadable → ℕ → List ℕ → List ℕ → ℕ → List ℕ → Type 0
Ran (Err fault) turns bs before done after = (done ≡ 4294967295) × (after ≡ before)
Ran (Ok script) turns bs before done after =
    (done ≡ (plays turns script bs (played 0 fresh before)).done)
    × (after ≡ (plays turns script bs (played 0 fresh before)).memory)
