use Rattle.std.proofs.Common.{◌+◌, ◌≤◌, length}
use Rattle.settings.specs.Lines.{lines}
use Rattle.settings.proofs.Turning.{GoesOn}
use Rattle.settings.proofs.check_turns.Given as goal

abbrev pub invariant-loop-next : goal.invariant-loop-next
invariant-loop-next l = GoesOn (l.before + 1) (lines l.text) (l.line + 1) (lines l.rest) × (l.line + length l.rest ≤ l.before + length l.text)

abbrev pub decreases-loop-next : goal.decreases-loop-next
decreases-loop-next l = length l.rest
