use Rattle.std.proofs.Common.{◌≡◌, ◌≤◌, drop}
use Rattle.script_lines.specs.Words.{hex_from}
use Rattle.script_lines.proofs.words.read_hex.Given as goal

abbrev pub invariant-loop-b : goal.invariant-loop-b
invariant-loop-b l = (hex_from 0 l.s ≡ hex_from l.n (drop l.b-index l.s)) × (l.n ≤ 4294967295)
