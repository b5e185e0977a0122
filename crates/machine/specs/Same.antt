-- When two machines, and two scripts that run, are the same. Assumes nothing.
use Rattle.std.specs.Prelude.{ℕ, Bool, List, ◌∷◌}
use Rattle.std.specs.Bool.{nat_eq}
use Rattle.std.specs.Ordering.{on, eq_of_both}
use Rattle.std.specs.Cmp.Lexicographic.{pointwise}
use Rattle.scripts.specs.Same.{same_steps}
use Rattle.machine.specs.declared.Status.{Status}
use Rattle.machine.specs.declared.Status.TheVariants.{Waiting, Running, Ended}
use Rattle.machine.specs.declared.Machine.{Machine}
use Rattle.machine.specs.Script.{State}

-- a number for each status
abbrev pub status_number : Status → ℕ
status_number Waiting = 0
status_number Running = 1
status_number Ended = 2

-- the status, the next step and the registers
abbrev pub parts_of : Machine → List ℕ
parts_of m = status_number m.status ∷ m.next ∷ m.registers

-- whether two machines have the same parts
abbrev pub same_machines : Machine → Machine → Bool
same_machines = on parts_of (pointwise nat_eq)

-- whether two scripts are in the same state: the same machine, the same steps and the same memory
abbrev pub same_states : State → State → Bool
same_states =
    eq_of_both (on (λ x. x.machine) same_machines)
    (eq_of_both (on (λ x. x.script) (pointwise same_steps)) (on (λ x. x.memory) (pointwise nat_eq)))
