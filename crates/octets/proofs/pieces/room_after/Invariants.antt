use Rattle.std.proofs.Common.{◌≡◌, drop}
use Rattle.octets.specs.Buffers.{room_after}
use Rattle.octets.proofs.Puts.{text_of}
use Rattle.octets.proofs.pieces.room_after.Given as goal

abbrev pub invariant-loop-p : goal.invariant-loop-p
invariant-loop-p l = room_after (text_of l.pieces) l.n ≡ room_after (text_of (drop l.p-index l.pieces)) l.room
