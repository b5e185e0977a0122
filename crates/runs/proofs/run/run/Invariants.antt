use Rattle.std.proofs.Common.{◌≡◌, List, length}
use Rattle.book.specs.Records.{Entry}
use Rattle.browser.specs.Parts.{part_of, sites_in}
use Rattle.plans.specs.Agendas.{agenda_of}
use Rattle.runs.specs.Chains.{Reached, Step}
use Rattle.runs.proofs.Weights.{weight}
use Rattle.runs.proofs.run.run.Given as goal

abbrev pub invariant-loop-browser : goal.invariant-loop-browser
invariant-loop-browser g l =
    (sites_in l.browser ≡ sites_in l.initial.browser) ×
    ((entries : List Entry) × Reached (Step (g.C.Carrier.carries (length l.initial.answer)) g.B.Book.notes (length l.initial.request) (sites_in l.initial.browser))
    (record { part = part_of l.initial.browser; agenda = agenda_of l.initial.agenda; carrier = l.initial.carrier; book = l.initial.book }) entries
    (record { part = part_of l.browser; agenda = agenda_of l.agenda; carrier = l.carrier; book = l.book }))

abbrev pub decreases-loop-browser : goal.decreases-loop-browser
decreases-loop-browser g l = weight (agenda_of l.agenda)
