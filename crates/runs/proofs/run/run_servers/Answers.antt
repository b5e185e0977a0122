use Rattle.std.proofs.Common.{ℕ, false, length, subst}
use mathlib.Core.Bool.{false≢true}
use Rattle.machine.specs.Script.{State}
use Rattle.pages.specs.Browser.{Part}
use Rattle.pages.specs.Runs.{Agenda}
use Rattle.browser.specs.Parts.{part_of, nothing}
use Rattle.browser.specs.Wire.{SiteTable}
use Rattle.storage.specs.Tables.{table_of}
use Rattle.plans.specs.Agendas.{agenda_of}
use Rattle.servers.specs.declared.carrier.InProcess.{InProcess}
use Rattle.runs.specs.Chains.{Ran}
use Rattle.runs.proofs.Exactly.{G, ran-exactly}
use Rattle.runs.proofs.run.run_servers.Goals as goal

pub returns : goal.returns
returns g c =
    let table : SiteTable = table_of c.args.plan.table in
    let made = c.in_ok-browser.ensures in
    let states : InProcess g.row.S.Denot → ℕ → g.S.Servers.State = λ x. g.S.Servers.states x.servers in
    let N = g.B.Book.notes in
    let room : ℕ = length c.args.request.now in
    let answer : ℕ = length c.args.answer.now in
    let agenda : Agenda = agenda_of c.args.plan.agenda in
    let first : InProcess g.row.S.Denot = record { servers = c.args.servers } in
    let may = G g.S.Servers.serving room answer table states N in
    let end : SiteTable → Part State → Type 0 = λ t b. Ran may (λ x. false) N room t (record { part = b; agenda = agenda; carrier = first; book = c.args.book.now }) (part_of c.run-browser.result) c.run-browser.new.carrier c.run-browser.new.book in
    ran-exactly g.S.Servers.serving room answer table states N (λ x. false) (λ x e. false≢true e) nothing agenda first c.args.book.now _ _ _
    (subst (λ z. end table z) made.part (subst (λ z. end z (part_of c.in_ok-browser.browser)) made.sites c.run-browser.ensures))
