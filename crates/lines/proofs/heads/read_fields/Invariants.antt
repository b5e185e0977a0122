use Rattle.std.proofs.Common.{◌≡◌, ◌-◌, [], length}
use Rattle.lines.specs.Heads.{head}
use Rattle.lines.specs.Lines.{names_of}
use Rattle.lines.proofs.Marks.{Marked}
use Rattle.lines.proofs.Turns.{Named}
use Rattle.lines.proofs.heads.read_fields.Given as goal

abbrev pub invariant-loop-k : goal.invariant-loop-k
invariant-loop-k g l =
    (head g.F.Fields.taking (length l.s) [] (g.F.Fields.known l.initial.known) l.s ≡ head g.F.Fields.taking (length l.s - l.k) (names_of l.k l.s) (g.F.Fields.known l.known) l.rest)
    × Named l.k l.s l.rest
    × Marked l.marks (names_of l.k l.s)
    × (length l.marks ≡ 128)
