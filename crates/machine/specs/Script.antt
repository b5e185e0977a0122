-- A script by what it does and what becomes of it: functions of its state and of what it is told, and of nothing else.
use Rattle.std.specs.Prelude.{ℕ, List, replicate}
use Rattle.scripts.specs.declared.Step.{Step}
use Rattle.machine.specs.declared.Act.{Act}
use Rattle.machine.specs.declared.Act.TheVariants.{Nothing, Ask, Say, Keep, Look, Open}
use Rattle.machine.specs.declared.Told.{Told}
use Rattle.machine.specs.declared.Machine.{Machine}
use Rattle.machine.specs.declared.Outcome.{Outcome}
use Rattle.machine.specs.declared.Outcome.TheVariants.{Did, Refused, Paused, Faulted, Idle}
use Rattle.machine.specs.Limits.{part}
use Rattle.machine.specs.Turn.{Turned, fresh, turn_of}

-- a script with its machine and its memory
pub record State : Type 0 where
  pub machine : Machine
  pub memory : List ℕ
  pub script : List Step

-- one such, from its parts
abbrev pub state : Machine → List ℕ → List Step → State
state m s script = record { machine = m; memory = s; script = script }

-- a script that has not begun
abbrev pub initial : List Step → State
initial script = state fresh (replicate 4096 0) script

-- what a script does, with the bytes themselves
pub data Action : Type 0 where
  nothing : Action
  asks : (site : ℕ) (path body : List ℕ) → Action
  says : (window site : ℕ) (bytes : List ℕ) → Action
  keeps : (bytes : List ℕ) → Action
  looks : Action
  opens : (site : ℕ) (path : List ℕ) → Action

-- an act with the parts of the memory that it names
abbrev pub action_of : Act → List ℕ → Action
action_of Nothing s = nothing
action_of (Ask site path body) s = asks site (part path s) (part body s)
action_of (Say window site bytes) s = says window site (part bytes s)
action_of (Keep bytes) s = keeps (part bytes s)
action_of Look s = looks
action_of (Open site path) s = opens site (part path s)

-- what is done in a turn: only what is not refused
abbrev pub done_in : Outcome → List ℕ → Action
done_in (Did act) s = action_of act s
done_in Refused s = nothing
done_in Paused s = nothing
done_in Faulted s = nothing
done_in Idle s = nothing

-- what a turn leaves, where so many sites are named
abbrev pub turn_from : ℕ → State → Told → List ℕ → Turned
turn_from sites x told bs = turn_of sites x.script told bs x.machine x.memory

-- what a script does in its turn
abbrev pub action_in : ℕ → State → Told → List ℕ → Action
action_in sites x told bs = done_in (turn_from sites x told bs).outcome (turn_from sites x told bs).memory

-- the script after its turn
abbrev pub state_after : ℕ → State → Told → List ℕ → State
state_after sites x told bs = state (turn_from sites x told bs).machine (turn_from sites x told bs).memory x.script
