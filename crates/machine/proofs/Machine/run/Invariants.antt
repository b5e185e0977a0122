use Rattle.std.proofs.Common.{◌≡◌}
use Rattle.machine.specs.Turn.{runs}
use Rattle.machine.proofs.Machine.run.Given as goal

-- what remains to be done gives what the whole run gives
abbrev pub invariant-steps : goal.invariant-steps
invariant-steps l =
    runs l.script l.left l.self l.memory ≡ runs l.script l.most l.initial.self l.initial.memory

abbrev pub decreases-steps : goal.decreases-steps
decreases-steps l = l.left
