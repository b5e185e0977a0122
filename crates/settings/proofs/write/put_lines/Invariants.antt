use Rattle.std.proofs.Common.{◌≡◌, ◌+◌, ◌≤◌, length}
use Rattle.octets.specs.Buffers.{over}
use Rattle.settings.specs.Views.{settings_of}
use Rattle.settings.specs.Written.{ended, settings_text}
use Rattle.settings.specs.Unwritten.{left_of}
use Rattle.settings.proofs.write.put_lines.Given as goal

abbrev pub invariant-loop-line : goal.invariant-loop-line
invariant-loop-line l =
    (over 0 l.initial.out (settings_text (settings_of l.settings)) ≡ over l.at l.out (ended (left_of l.left)))
    × (l.at + length (ended (left_of l.left)) ≡ length (settings_text (settings_of l.settings)))
    × (length (settings_text (settings_of l.settings)) ≤ length l.initial.out)

abbrev pub decreases-loop-line : goal.decreases-loop-line
decreases-loop-line l = length (left_of l.left)
