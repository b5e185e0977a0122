use Rattle.std.proofs.Common.{◌≡◌, ◌≤◌, ◌++◌, length}
use Rattle.bounded.specs.Texts.{text_of}
use Rattle.words.specs.Hex.{hex_then}
use Rattle.words.proofs.hex.bytes_then.Given as goal

abbrev pub invariant-loop-b : goal.invariant-loop-b
invariant-loop-b g l = (hex_then l.s ≡ (text_of l.text ++ (hex_then l.rest).0, (hex_then l.rest).1)) × (length (text_of l.text) ≤ g.row.N)

abbrev pub decreases-loop-b : goal.decreases-loop-b
decreases-loop-b g l = length l.rest
