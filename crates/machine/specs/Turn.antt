-- A turn of a script: what it is told, a run of steps, and what comes of it.
use Rattle.std.specs.Prelude.{ℕ, zero, suc, min, cond, List, [], ◌∷◌, ◌++◌, length, take, drop, replicate, Some, None, Ok, Err, slice_set}
use Rattle.scripts.specs.declared.Step.{Step}
use Rattle.machine.specs.declared.Told.{Told}
use Rattle.machine.specs.declared.Told.TheVariants.{Silence, Begun, Answer, Barred, Heard, Kept}
use Rattle.machine.specs.declared.Status.{Status}
use Rattle.machine.specs.declared.Status.TheVariants.{Waiting, Running, Ended}
use Rattle.machine.specs.declared.Machine.{Machine}
use Rattle.machine.specs.declared.Outcome.{Outcome}
use Rattle.machine.specs.declared.Outcome.TheVariants.{Did, Refused, Paused, Faulted, Idle}
use Rattle.machine.specs.Limits.{allowed}
use Rattle.machine.specs.Step.{Flow, on, After, after, step_of}

-- the number of the fault in a turn, and 0 for none
abbrev pub fault_number : Outcome → ℕ
fault_number (Did act) = 0
fault_number Refused = 5
fault_number Paused = 0
fault_number Faulted = 4
fault_number Idle = 0

-- a machine that has not begun
abbrev pub fresh : Machine
fresh = record { registers = replicate 32 0; next = 0; status = Waiting }

-- a machine with another status
abbrev pub become : Status → Machine → Machine
become status m = record { registers = m.registers; next = m.next; status = status }

-- what is told, as a number
abbrev pub kind_of : Told → ℕ
kind_of Silence = 0
kind_of Begun = 1
kind_of (Answer site code) = 2
kind_of (Barred site) = 3
kind_of (Heard site) = 4
kind_of Kept = 5

-- the site that an answer or a message is of
abbrev pub site_of : Told → ℕ
site_of Silence = 0
site_of Begun = 0
site_of (Answer site code) = site
site_of (Barred site) = site
site_of (Heard site) = site
site_of Kept = 0

-- the code of an answer that may be seen
abbrev pub code_of : Told → ℕ
code_of Silence = 0
code_of Begun = 0
code_of (Answer site code) = code
code_of (Barred site) = 0
code_of (Heard site) = 0
code_of Kept = 0

-- the bytes that are told: none with silence, or of an answer that may not be seen
abbrev pub bytes_of : Told → List ℕ → List ℕ
bytes_of Silence bs = []
bytes_of Begun bs = bs
bytes_of (Answer site code) bs = bs
bytes_of (Barred site) bs = []
bytes_of (Heard site) bs = bs
bytes_of Kept bs = bs

-- how many bytes are told: as many as the memory has room for, and at most 4,096
abbrev pub room : List ℕ → List ℕ → ℕ
room bs s = min (min (length bs) (length s)) 4096

-- the memory with the bytes from its first place on; what lies past them stays
abbrev pub placed : List ℕ → List ℕ → List ℕ
placed bs s = take (room bs s) bs ++ drop (room bs s) s

-- kind, length, site and code are in the first four registers, and the script runs
abbrev pub starts : ℕ → ℕ → ℕ → ℕ → Machine → Machine
starts kind len site code m = record {
  registers = slice_set (slice_set (slice_set (slice_set m.registers 0 kind) 1 len) 2 site) 3 code;
  next = m.next;
  status = Running;
}

-- what a script is told in its first four registers: kind, length, site and code
abbrev pub numbers_told : Told → List ℕ → List ℕ → List ℕ
numbers_told told bs s = kind_of told ∷ room (bytes_of told bs) s ∷ site_of told ∷ code_of told ∷ []

-- numbers are in the first registers, and the script runs
abbrev pub started : List ℕ → Machine → Machine
started ns m = record { registers = ns ++ drop (length ns) m.registers; next = m.next; status = Running }

-- a script that waited is told something
abbrev pub hears : Told → List ℕ → Machine → List ℕ → Machine
hears told bs m s = starts (kind_of told) (room (bytes_of told bs) s) (site_of told) (code_of told) m

-- a run goes on after a step that neither waits nor faults
abbrev pub while_on : Flow → After → After → After
while_on (Ok None) more stop = more
while_on (Ok (Some act)) more stop = stop
while_on (Err out) more stop = stop

-- up to so many steps: until a wait or a fault
unfoldable pub runs : List Step → ℕ → Machine → List ℕ → After
runs script zero m s = after on m s
runs script (suc k) m s =
    while_on (step_of script m s).flow (runs script k (step_of script m s).machine (step_of script m s).memory)
    (step_of script m s)

-- what a turn leaves
pub record Turned : Type 0 where
  pub outcome : Outcome
  pub machine : Machine
  pub memory : List ℕ

-- one such, from its parts
abbrev pub turned : Outcome → Machine → List ℕ → Turned
turned outcome m s = record { outcome = outcome; machine = m; memory = s }

-- what comes of a run, by how it went
abbrev pub end_by : Flow → ℕ → Machine → List ℕ → Turned
end_by (Ok None) sites m s = turned Paused m s
end_by (Ok (Some act)) sites m s = turned (cond (allowed act sites s) (Did act) Refused) (become Waiting m) s
end_by (Err out) sites m s = turned Faulted (become Ended m) s

-- what comes of a run
abbrev pub end_of : ℕ → After → Turned
end_of sites x = end_by x.flow sites x.machine x.memory

-- a turn of at most k steps, by the status: one that has ended does nothing, one that runs is told nothing
abbrev pub turn_by : Status → ℕ → ℕ → List Step → Told → List ℕ → Machine → List ℕ → Turned
turn_by Ended k sites script told bs m s = turned Idle m s
turn_by Running k sites script told bs m s = end_of sites (runs script k m s)
turn_by Waiting k sites script told bs m s =
    end_of sites (runs script k (hears told bs m s) (placed (bytes_of told bs) s))

-- a turn of at most k steps
abbrev pub turn_in : ℕ → ℕ → List Step → Told → List ℕ → Machine → List ℕ → Turned
turn_in k sites script told bs m s = turn_by m.status k sites script told bs m s

-- a turn: at most 10,000 steps
abbrev pub turn_of : ℕ → List Step → Told → List ℕ → Machine → List ℕ → Turned
turn_of sites script told bs m s = turn_in 10000 sites script told bs m s
