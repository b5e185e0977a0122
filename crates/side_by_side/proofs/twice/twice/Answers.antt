use Rattle.std.proofs.Common.{length, sym, ◌∙◌, subst, subst₂}
use mathlib.Core.Bool.{false≢true}
use Rattle.machine.specs.Script.{State}
use Rattle.bounded.specs.Numbers.{number_of}
use Rattle.pages.specs.Browser.{Part}
use Rattle.pages.specs.Outs.{Group}
use Rattle.pages.specs.Promise.{only}
use Rattle.pages.specs.Views.{Alike}
use Rattle.browser.specs.Parts.{sites_in, nothing}
use Rattle.browser.specs.Wire.{SiteTable}
use Rattle.compare.specs.Alike.{world}
use Rattle.plans.specs.Agendas.{agenda_of}
use Rattle.runs.specs.Exact.{sites_with}
use Rattle.side_by_side.specs.Verdicts.{Truly}
use Rattle.side_by_side.proofs.twice.twice.Goals as goal

pub returns-then-not-same_worlds : goal.returns-then-not-same_worlds
returns-then-not-same_worlds g c = λ a.
    let both : Part State → Part State → Type 0 = λ b d. Alike (only (number_of c.args.site)) (world b (g.S.Servers.states c.args.first)) (world d (g.S.Servers.states c.args.second)) in
    false≢true (sym c.if-not-same_worlds.true ∙ c.same_worlds.ensures.1 (subst₂ (λ b d. both b d) (sym c.in_ok-one.ensures.part) (sym c.in_ok-two.ensures.part) a))

pub follow-requires : goal.follow-requires
follow-requires g c = record { sites = c.in_ok-one.ensures.sites ∙ sym c.in_ok-two.ensures.sites; alike = c.same_worlds.ensures.0 c.if-not-same_worlds.false }

pub returns : goal.returns
returns g c =
    let h : Group = only (number_of c.args.site) in
    let truly : SiteTable → Part State → Part State → Type 0 = λ t b d. Truly (sites_with g.S.Servers.serving 4096 (length c.args.answer.now) t) h
    (record { world = world b (g.S.Servers.states c.args.first); agenda = agenda_of c.args.plan.agenda })
    (record { world = world d (g.S.Servers.states c.args.second); agenda = agenda_of c.args.plan.agenda }) c.follow.result in
    subst (λ t. truly t nothing nothing) c.in_ok-one.ensures.sites
    (subst₂ (λ b d. truly (sites_in c.in_ok-one.one) b d) c.in_ok-one.ensures.part c.in_ok-two.ensures.part c.follow.ensures)
