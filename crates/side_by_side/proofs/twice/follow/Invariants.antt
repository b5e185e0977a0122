use Rattle.std.proofs.Common.{◌≡◌, ℕ, length}
use Rattle.bounded.specs.Numbers.{number_of}
use Rattle.browser.specs.Parts.{part_of, sites_in}
use Rattle.pages.specs.Promise.{only}
use Rattle.compare.specs.Alike.{world}
use Rattle.plans.specs.Agendas.{agenda_of}
use Rattle.runs.specs.Exact.{sites_with}
use Rattle.runs.proofs.Weights.{weight}
use Rattle.side_by_side.specs.Verdicts.{counted}
use Rattle.side_by_side.proofs.Sides.{Sides}
use Rattle.side_by_side.proofs.twice.follow.Given as goal

abbrev pub invariant-loop-due : goal.invariant-loop-due
invariant-loop-due g l =
    (sites_in l.one ≡ sites_in l.initial.one) × (sites_in l.two ≡ sites_in l.initial.one) × (length l.sent ≡ 4096) × (length l.other ≡ 4096) ×
    ((k : ℕ) × (l.event ≡ counted k) ×
    Sides (sites_with g.S.Servers.serving 4096 (length l.initial.answer) (sites_in l.initial.one)) (only (number_of l.site))
    (record { world = world (part_of l.initial.one) (g.S.Servers.states l.initial.first.servers); agenda = agenda_of l.initial.agenda })
    (record { world = world (part_of l.initial.two) (g.S.Servers.states l.initial.second.servers); agenda = agenda_of l.initial.agenda }) k
    (record { world = world (part_of l.one) (g.S.Servers.states l.first.servers); agenda = agenda_of l.agenda })
    (record { world = world (part_of l.two) (g.S.Servers.states l.second.servers); agenda = agenda_of l.agenda }))

abbrev pub decreases-loop-due : goal.decreases-loop-due
decreases-loop-due g l = weight (agenda_of l.agenda)
