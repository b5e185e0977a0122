use Rattle.std.proofs.Common.{◌≡◌, ◌+◌, ◌≤◌, [], length, take}
use Rattle.assembler.specs.Texts.{lines}
use Rattle.assembler.specs.Assembled.{lines_from}
use Rattle.assembler.proofs.page.put_lines.Given as goal

abbrev pub invariant-loop-first : goal.invariant-loop-first
invariant-loop-first l =
    (lines_from l.text 0 [] (lines l.text) ≡ lines_from l.text l.line (take l.at l.body) (lines l.rest))
    × (l.line + length l.rest ≤ length l.text)
    × (l.at ≤ 16000)

abbrev pub decreases-loop-first : goal.decreases-loop-first
decreases-loop-first l = length l.rest
