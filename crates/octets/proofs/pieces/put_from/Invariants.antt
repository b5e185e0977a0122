use Rattle.std.proofs.Common.{◌≡◌, ◌+◌, ◌≤◌, length, drop}
use Rattle.octets.specs.Buffers.{over}
use Rattle.octets.proofs.Puts.{text_of}
use Rattle.octets.proofs.pieces.put_from.Given as goal

abbrev pub invariant-loop-p : goal.invariant-loop-p
invariant-loop-p l =
    (over l.from l.initial.out (text_of l.pieces) ≡ over l.at l.out (text_of (drop l.p-index l.pieces)))
    × (l.at + length (text_of (drop l.p-index l.pieces)) ≡ l.from + length (text_of l.pieces))
    × (l.from + length (text_of l.pieces) ≤ length l.initial.out)
