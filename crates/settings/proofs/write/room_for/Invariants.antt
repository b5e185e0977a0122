use Rattle.std.proofs.Common.{◌≡◌, length}
use Rattle.octets.specs.Buffers.{room_after}
use Rattle.settings.specs.Views.{settings_of}
use Rattle.settings.specs.Written.{ended, settings_text}
use Rattle.settings.specs.Unwritten.{left_of}
use Rattle.settings.proofs.write.room_for.Given as goal

abbrev pub invariant-loop-line : goal.invariant-loop-line
invariant-loop-line l = room_after (settings_text (settings_of l.settings)) l.n ≡ room_after (ended (left_of l.left)) l.room

abbrev pub decreases-loop-line : goal.decreases-loop-line
decreases-loop-line l = length (left_of l.left)
