use Rattle.std.proofs.Common.{◌≡◌, length, Option}
use Rattle.pages.specs.Runs.{Due, line_due}
use Rattle.plans.specs.Agendas.{lines_of}
use Rattle.plans.proofs.agenda.Agenda.next_line.Given as goal

abbrev pub invariant-loop-line : goal.invariant-loop-line
invariant-loop-line l =
    (◌≡◌ {A = Option Due} (line_due l.windows (lines_of l.self)) (line_due l.windows (lines_of l.initial.self))) ×
    (l.self.opens ≡ l.initial.self.opens) × (l.self.round ≡ l.initial.self.round)

abbrev pub decreases-loop-line : goal.decreases-loop-line
decreases-loop-line l = length (lines_of l.self)
