use Rattle.std.proofs.Common.{◌≡◌, ◌+◌, ◌≤◌, length}
use Rattle.assembler.specs.Texts.{lines, label_from, label_in}
use Rattle.assembler.proofs.labels.find_label.Given as goal

abbrev pub invariant-loop-first : goal.invariant-loop-first
invariant-loop-first l =
    (label_in l.name l.text ≡ label_from l.name l.line l.at (lines l.rest))
    × (l.line + length l.rest ≤ length l.text)
    × (l.at ≤ 2001)

abbrev pub decreases-loop-first : goal.decreases-loop-first
decreases-loop-first l = length l.rest
