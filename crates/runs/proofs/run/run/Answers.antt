use Rattle.std.proofs.Common.{◌≡◌, List, [], ◌∷◌, map, length, sym, refl, ap, ◌∙◌, subst}
use lib.ListN.{length-map}
use Rattle.machine.specs.Script.{State}
use Rattle.pages.specs.Browser.{Part, Event}
use Rattle.pages.specs.Runs.{Agenda, due}
use Rattle.book.specs.Records.{Entry, entry_of, event_of}
use Rattle.browser.specs.Parts.{part_of, sites_in}
use Rattle.browser.specs.Wire.{SiteTable}
use Rattle.windows.specs.declared.window.Window.{Window}
use Rattle.windows.specs.Windows.{window_of}
use Rattle.plans.specs.Agendas.{agenda_of, event_in, rest_of}
use Rattle.runs.specs.Events.{Occurs}
use Rattle.runs.specs.Chains.{Moment}
use Rattle.runs.proofs.Chaining.{reached_none, reached_more, step_so}
use Rattle.runs.proofs.Weights.{next_falls}
use Rattle.runs.proofs.run.run.Goals as goal

-- as many windows as are counted
counted : (b : Part State) (ws : List Window) → map window_of ws ≡ b.windows → length ws ≡ length b.windows
counted b ws e = sym (length-map ws window_of) ∙ ap length e

pub loop-browser-init : goal.loop-browser-init
loop-browser-init g c = (refl, ([], reached_none _ _))

pub loop-browser-smaller : goal.loop-browser-smaller
loop-browser-smaller g c =
    next_falls (length c.windows.result.now) (agenda_of c.loop-browser.agenda) (agenda_of c.next.new.self) (event_of c.in-Some.event) c.windows.ensures.few c.in-Some.ensures.event c.in-Some.ensures.rest

pub loop-browser-preserved : goal.loop-browser-preserved
loop-browser-preserved g c =
    let b : Part State = part_of c.loop-browser.browser in
    let a : Agenda = agenda_of c.loop-browser.agenda in
    let n = counted b c.windows.result.now c.windows.ensures.is in
    let table : SiteTable = sites_in c.args.browser in
    let same : sites_in c.loop-browser.browser ≡ table = c.loop-browser.invariant.0 in
    let room : length c.loop-browser.request ≡ length c.args.request.now = c.loop-browser.auto.request in
    let answer : length c.loop-browser.answer ≡ length c.args.answer.now = c.loop-browser.auto.answer in
    let e : Event = event_of c.in-Some.event in
    let entry : Entry = entry_of c.happen-happened.result.record in
    let x : Moment g.row.C.Denot g.row.B.Denot = record { part = b; agenda = a; carrier = c.loop-browser.carrier; book = c.loop-browser.book } in
    let y : Moment g.row.C.Denot g.row.B.Denot = record { part = part_of c.happen-happened.result.browser; agenda = agenda_of c.next.new.self; carrier = c.happen-happened.new.carrier; book = c.note.new.self } in
    let o : Occurs (g.C.Carrier.carries (length c.args.answer.now)) (length c.args.request.now) table e b x.carrier entry y.part y.carrier =
    subst (λ z. Occurs (g.C.Carrier.carries z) (length c.args.request.now) table e b x.carrier entry y.part y.carrier) answer
    (subst (λ z. Occurs (g.C.Carrier.carries (length c.loop-browser.answer)) z table e b x.carrier entry y.part y.carrier) room
    (subst (λ z. Occurs (g.C.Carrier.carries (length c.loop-browser.answer)) (length c.loop-browser.request) z e b x.carrier entry y.part y.carrier) same c.happen-happened.ensures.occurs)) in
    let s = step_so (g.C.Carrier.carries (length c.args.answer.now)) g.B.Book.notes (length c.args.request.now) table x y e entry
    (c.in-Some.ensures.event ∙ ap (λ z. event_in (due z a)) n) (c.in-Some.ensures.rest ∙ ap (λ z. rest_of (due z a)) n) o c.note.ensures in
    (c.happen-happened.ensures.sites ∙ same, (entry ∷ c.loop-browser.invariant.1.0, reached_more _ _ x y c.loop-browser.invariant.1.0 entry c.loop-browser.invariant.1.1 s))
