use Rattle.std.proofs.Common.{◌≡◌, ◌-◌, ◌≤◌}
use Rattle.machine_export.specs.Plays.{played, plays}
use Rattle.machine_export.proofs.play.Given as goal

-- what is left to play gives what all turns give
abbrev pub invariant-loop-i : goal.invariant-loop-i
invariant-loop-i l =
    (plays (l.turns - l.i) l.script l.bytes (played l.done l.machine l.memory)
    ≡ plays l.turns l.script l.bytes (played 0 l.initial.machine l.initial.memory))
    × (l.done ≤ l.i)
