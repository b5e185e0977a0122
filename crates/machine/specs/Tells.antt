-- A script that is told numbers, by another than a browser.
use Rattle.std.specs.Prelude.{ℕ, Bool, true, false, List, ◌++◌, drop}
use Rattle.machine.specs.declared.Status.{Status}
use Rattle.machine.specs.declared.Status.TheVariants.{Waiting, Running, Ended}
use Rattle.machine.specs.declared.Machine.{Machine}

-- whether a script is told anything: only while it waits
abbrev pub waiting : Status → Bool
waiting Waiting = true
waiting Running = false
waiting Ended = false

-- five numbers are in the first registers, and the script runs
abbrev pub tells : Status → List ℕ → Machine → Machine
tells Waiting ns m = record { registers = ns ++ drop 5 m.registers; next = m.next; status = Running }
tells Running ns m = m
tells Ended ns m = m
