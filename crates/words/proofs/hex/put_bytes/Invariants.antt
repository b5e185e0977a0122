use Rattle.std.proofs.Common.{◌≡◌, ◌+◌, ◌≤◌, length, drop}
use Rattle.octets.specs.Buffers.{over}
use Rattle.words.specs.Hex.{hex_of}
use Rattle.words.proofs.hex.put_bytes.Given as goal

abbrev pub invariant-loop-b : goal.invariant-loop-b
invariant-loop-b l =
    (over l.initial.at l.initial.out (hex_of l.bytes) ≡ over l.at l.out (hex_of (drop l.b-index l.bytes)))
    × (l.at + length (hex_of (drop l.b-index l.bytes)) ≡ l.initial.at + length (hex_of l.bytes))
    × (l.initial.at + length (hex_of l.bytes) ≤ length l.initial.out)
