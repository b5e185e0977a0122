-- The sites' scripts, as the machine runs them: what a script is told and what it does, in the words of the promise.
use Rattle.std.specs.Prelude.{◌≡◌, ℕ, ◌<◌, ◌≤◌, true, List, [], ◌∷◌, length, Some, None, Ok, Err, Option, Result}
use Rattle.scripts.specs.declared.Step.{Step}
use Rattle.scripts.specs.declared.Step.TheVariants.{Wait, Jump}
use Rattle.scripts.specs.declared.Call.TheVariants.{Nothing}
use Rattle.scripts.specs.declared.Unreadable.{Unreadable}
use Rattle.scripts.specs.Page.{page_in}
use Rattle.machine.specs.declared.Told.{Told as MachineTold}
use Rattle.machine.specs.declared.Told.TheVariants as by
use Rattle.machine.specs.declared.Outcome.{Outcome}
use Rattle.machine.specs.Script.{State, initial, Action, nothing, asks, says, keeps, looks, opens, turn_from, action_in, state_after}
use Rattle.addresses.specs.Address.{path_ok}
use Rattle.pages.specs.Sites.{Bytes, Scripts, Act, Idle, Asks, Says, Keeps, Looks, Opens, Told, Silence, Begun, Answer, Barred, Heard, Kept}

-- What a script is told, with the bytes that go with it. Silence and a barred answer have none.
abbrev pub told_of : MachineTold → Bytes → Told
told_of by.Silence bs = Silence
told_of by.Begun bs = Begun bs
told_of (by.Answer site code) bs = Answer site code bs
told_of (by.Barred site) bs = Barred site
told_of (by.Heard site) bs = Heard site bs
told_of by.Kept bs = Kept bs

-- The same, taken apart again.
abbrev pub machine_told : Told → MachineTold
machine_told Silence = by.Silence
machine_told (Begun path) = by.Begun
machine_told (Answer site code body) = by.Answer site code
machine_told (Barred site) = by.Barred site
machine_told (Heard site what) = by.Heard site
machine_told (Kept what) = by.Kept

abbrev pub bytes_told : Told → Bytes
bytes_told Silence = []
bytes_told (Begun path) = path
bytes_told (Answer site code body) = body
bytes_told (Barred site) = []
bytes_told (Heard site what) = what
bytes_told (Kept what) = what

-- What a script does.
abbrev pub act_by : Action → Act
act_by nothing = Idle
act_by (asks site path body) = Asks site path body
act_by (says window site what) = Says window site what
act_by (keeps what) = Keeps what
act_by looks = Looks
act_by (opens site path) = Opens site path

-- The script that does nothing: it waits again and again.
abbrev pub idle_steps : List Step
idle_steps = Wait Nothing ∷ Jump 0 ∷ []

-- The steps of a page that could be read, or else the script that does nothing.
abbrev pub steps_or : Result (List Step) Unreadable → List Step
steps_or (Ok steps) = steps
steps_or (Err fault) = idle_steps

abbrev pub steps_from : Option Bytes → List Step
steps_from None = idle_steps
steps_from (Some page) = steps_or (page_in page)

-- Why a page cannot be read, if it cannot.
abbrev pub fault_in : Result (List Step) Unreadable → Option Unreadable
fault_in (Ok steps) = None
fault_in (Err fault) = Some fault

abbrev pub unreadable_in : Option Bytes → Option Unreadable
unreadable_in None = None
unreadable_in (Some page) = fault_in (page_in page)

-- What a script does in a state, where so many sites are named, when it is told something.
abbrev pub act_in : ℕ → State → Told → Act
act_in n x told = act_by (action_in n x (machine_told told) (bytes_told told))

-- What comes of its run.
abbrev pub outcome_in : ℕ → State → Told → Outcome
outcome_in n x told = (turn_from n x (machine_told told) (bytes_told told)).outcome

-- Its next state.
abbrev pub state_in : ℕ → State → Told → State
state_in n x told = state_after n x (machine_told told) (bytes_told told)

-- THE SCRIPTS that the machine runs: the same machine for every site.
abbrev pub by_machine : ℕ → Scripts State
by_machine n = record {
  sites = n;
  act = λ site x told. act_in n x told;
  next = λ site x told. state_in n x told;
  begin = λ site page. initial (steps_from page);
}

-- An act that is done is in its limits: its site is one of so many, its path is one, and its bytes are few enough.
abbrev pub InLimits : ℕ → Act → Type 0
InLimits n Idle = Unit {0}
InLimits n (Asks site path body) = (site < n) × (path_ok path ≡ true) × (length body ≤ 1024)
InLimits n (Says window site what) = (site < n) × (length what ≤ 1024)
InLimits n (Keeps what) = length what ≤ 4096
InLimits n Looks = Unit {0}
InLimits n (Opens site path) = (site < n) × (path_ok path ≡ true)
