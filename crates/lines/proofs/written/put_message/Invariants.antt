use Rattle.std.proofs.Common.{◌≡◌, ◌+◌, ◌≤◌, length, drop}
use Rattle.octets.specs.Buffers.{room_after, over}
use Rattle.lines.specs.Views.{lines_then}
use Rattle.lines.proofs.written.put_message.Given as goal

abbrev pub invariant-loop-line : goal.invariant-loop-line
invariant-loop-line l = room_after (lines_then l.lines l.body) (length l.out) ≡ room_after (lines_then (drop l.line-index l.lines) l.body) l.room

abbrev pub invariant-loop-line-2 : goal.invariant-loop-line-2
invariant-loop-line-2 l =
    (over 0 l.initial.out (lines_then l.lines l.body) ≡ over l.at l.out (lines_then (drop l.line-index l.lines) l.body))
    × (l.at + length (lines_then (drop l.line-index l.lines) l.body) ≡ length (lines_then l.lines l.body))
    × (length (lines_then l.lines l.body) ≤ length l.initial.out)
