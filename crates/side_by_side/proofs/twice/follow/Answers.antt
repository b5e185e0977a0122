use Rattle.std.proofs.Common.{◌≡◌, ℕ, suc, ◌+◌, min, List, map, length, take, Some, None, Option, sym, refl, ap, ◌∙◌, arith}
use mathlib.Core.Bool.{false≢true}
use lib.ListN.{length-map}
use Rattle.std.specs.Option.{option_map}
use Rattle.machine.specs.Script.{State}
use Rattle.bounded.specs.Numbers.{number_of}
use Rattle.pages.specs.Sites.{Bytes, Sites}
use Rattle.pages.specs.Browser.{Part, Event}
use Rattle.pages.specs.Outs.{Group}
use Rattle.pages.specs.Runs.{Agenda, Run, Due, due, event_by, event_now}
use Rattle.pages.specs.Promise.{only, AlikeRuns}
use Rattle.pages.specs.Views.{Alike}
use Rattle.book.specs.Records.{entry_of, event_of}
use Rattle.bounded.specs.declared.site.SiteNumber.{SiteNumber}
use Rattle.book.specs.declared.record.Event.{Event as DueEvent}
use Rattle.book.specs.declared.record.Record.{Record}
use Rattle.browser.specs.declared.browser.Browser.{Browser}
use Rattle.browser.specs.Parts.{part_of, sites_in}
use Rattle.browser.specs.Wire.{SiteTable}
use Rattle.windows.specs.declared.window.Window.{Window}
use Rattle.windows.specs.Windows.{window_of}
use Rattle.plans.specs.declared.agenda.Agenda.{Agenda as Plan}
use Rattle.plans.specs.Agendas.{agenda_of, event_in, rest_of}
use Rattle.servers.specs.declared.carrier.InProcess.{InProcess}
use Rattle.compare.specs.Alike.{world}
use Rattle.compare.specs.Sent.{sent_to_others}
use Rattle.runs.specs.Events.{asked, sent, Occurs}
use Rattle.runs.specs.Exact.{sites_with}
use Rattle.runs.proofs.Chaining.{none-due}
use Rattle.runs.proofs.Exactly.{G}
use Rattle.runs.proofs.Weights.{next_falls}
use Rattle.side_by_side.specs.Verdicts.{counted, SoFar}
use Rattle.side_by_side.proofs.Sides.{Sides, sides_none, so_far}
use Rattle.side_by_side.proofs.Both.{Unnoted, renamed, Events, both_events}
use Rattle.side_by_side.proofs.twice.follow.Given as given
use Rattle.side_by_side.proofs.twice.follow.Goals as goal

-- as many windows as are counted
as_counted : (b : Part State) (ws : List Window) → map window_of ws ≡ b.windows → length ws ≡ length b.windows
as_counted b ws e = sym (length-map ws window_of) ∙ ap length e

-- what was sent, under the names that the runs have for it
on_wire_lem : (h : Group) (room : ℕ) (table t : SiteTable) (n : ℕ) (e : Event) (b : Part State) (site : Option ℕ) (bytes : Bytes) → t ≡ table → n ≡ room → site ≡ option_map (λ r. r.site) (asked t e b) → bytes ≡ sent n t (asked t e b) →
    sent_to_others h site bytes ≡ sent_to_others h (option_map (λ r. r.site) (asked table e b)) (sent room table (asked table e b))
on_wire_lem h room table t n e b site bytes et en es eb =
    ap (λ z. sent_to_others h z bytes) (es ∙ ap (λ z. option_map (λ r. r.site) (asked z e b)) et)
    ∙ ap (sent_to_others h (option_map (λ r. r.site) (asked table e b))) (eb ∙ ap (λ z. sent z t (asked t e b)) en ∙ ap (λ z. sent room z (asked z e b)) et)

one_more : (n k r : ℕ) → n ≡ counted k → r ≡ min (n + 1) 18446744073709551615 → r ≡ counted (suc k)
one_more n k r a b = omega arith

-- the two sides as they begin
module _ (g : given.Over) (site : SiteNumber) (room : ℕ) (agenda : Plan) (one two : Browser) (first second : InProcess g.row.S.Denot)
    (alike : Alike (only (number_of site)) (world (part_of one) (g.S.Servers.states first.servers)) (world (part_of two) (g.S.Servers.states second.servers))) where
  abbrev table : SiteTable
  table = sites_in one

  abbrev states : InProcess g.row.S.Denot → ℕ → g.S.Servers.State
  states z = g.S.Servers.states z.servers

  abbrev may : ℕ → InProcess g.row.S.Denot → ℕ → Bytes → Bytes → InProcess g.row.S.Denot → Type 0
  may r = G g.S.Servers.serving 4096 r table states Unnoted

  abbrev h : Group
  h = only (number_of site)

  abbrev side : Browser → InProcess g.row.S.Denot → Plan → Run State g.S.Servers.State
  side b f a = record { world = world (part_of b) (states f); agenda = agenda_of a }

  abbrev p : Sites State g.S.Servers.State
  p = sites_with g.S.Servers.serving 4096 room table

  start : AlikeRuns h (side one first agenda) (side two second agenda)
  start = record { agenda = refl; world = alike }

  none : Sides p h (side one first agenda) (side two second agenda) 0 (side one first agenda) (side two second agenda)
  none = sides_none p h (side one first agenda) (side two second agenda) start

  till : (k : ℕ) (x y : Run State g.S.Servers.State) → Sides p h (side one first agenda) (side two second agenda) k x y → SoFar p h (side one first agenda) (side two second agenda) k
  till = so_far p h (side one first agenda) (side two second agenda) start

  -- one event on both sides, by what its two calls say
  events : (k : ℕ) (e : DueEvent) (ws : List Window) (b b' d d' : Browser) (c c' f f' : InProcess g.row.S.Denot) (a a' : Plan) (r s : Record) (la lb na nb : ℕ) →
      Sides p h (side one first agenda) (side two second agenda) k (side b c a) (side d f a) → map window_of ws ≡ (part_of b).windows →
      Some (event_of e) ≡ event_in (due (length ws) (agenda_of a)) → agenda_of a' ≡ rest_of (due (length ws) (agenda_of a)) → sites_in b ≡ table → sites_in d ≡ table → la ≡ room → lb ≡ room → na ≡ 4096 → nb ≡ 4096 →
      Occurs (may la) na (sites_in b) (event_of e) (part_of b) c (entry_of r) (part_of b') c' → Occurs (may lb) nb (sites_in d) (event_of e) (part_of d) f (entry_of s) (part_of d') f' →
      Events g.S.Servers.serving 4096 room table states h (side one first agenda) (side two second agenda) start k (event_of e) (part_of b) (part_of b') (part_of d) (part_of d') c c' f f' (agenda_of a) (agenda_of a') (entry_of r) (entry_of s)
  events k e ws b b' d d' c c' f f' a a' r s la lb na nb t w ev rs tb td el em en eo o q =
      both_events g.S.Servers.serving 4096 room table states h (side one first agenda) (side two second agenda) start k (length ws) (event_of e) (part_of b) (part_of b') (part_of d) (part_of d') c c' f f' (agenda_of a) (agenda_of a') (entry_of r) (entry_of s)
      t (as_counted (part_of b) ws w) ev rs (renamed may (event_of e) (part_of b) (part_of b') c c' (entry_of r) la room na 4096 (sites_in b) table el en tb o) (renamed may (event_of e) (part_of d) (part_of d') f f' (entry_of s) lb room nb 4096 (sites_in d) table em eo td q)

pub loop-due-init : goal.loop-due-init
loop-due-init g c = (refl, sym c.requires.sites, refl, refl, (0, refl, none g c.args.site (length c.args.answer.now) c.args.agenda c.args.one c.args.two c.args.first c.args.second c.requires.alike))

pub returns-then-not-same_let_out : goal.returns-then-not-same_let_out
returns-then-not-same_let_out g c =
    let i = c.loop-due.invariant in
    let kept : length c.loop-due.answer ≡ length c.args.answer.now = c.loop-due.auto.answer in
    let E = events g c.args.site (length c.args.answer.now) c.args.agenda c.args.one c.args.two c.args.first c.args.second c.requires.alike i.4.0 c.in-Some.due c.windows.result.now
    c.loop-due.one c.happen-a.result.browser c.loop-due.two c.happen-b.result.browser c.loop-due.first c.happen-a.new.carrier c.loop-due.second c.happen-b.new.carrier c.loop-due.agenda c.next.new.self
    c.happen-a.result.record c.happen-b.result.record _ _ _ _ i.4.2 c.windows.ensures.is c.in-Some.ensures.event c.in-Some.ensures.rest i.0 i.1 kept (c.happen-a.auto.answer ∙ kept) i.2 i.3 c.happen-a.ensures.occurs c.happen-b.ensures.occurs in
    (i.4.0, i.4.1, till g c.args.site (length c.args.answer.now) c.args.agenda c.args.one c.args.two c.args.first c.args.second c.requires.alike i.4.0 _ _ i.4.2, E.apart (λ l. false≢true (sym c.if-not-same_let_out.true ∙ c.same_let_out.ensures.1 l)))

pub returns-in-Some-find_leak : goal.returns-in-Some-find_leak
returns-in-Some-find_leak g c =
    let i = c.loop-due.invariant in
    let kept : length c.loop-due.answer ≡ length c.args.answer.now = c.loop-due.auto.answer in
    let E = events g c.args.site (length c.args.answer.now) c.args.agenda c.args.one c.args.two c.args.first c.args.second c.requires.alike i.4.0 c.in-Some.due c.windows.result.now
    c.loop-due.one c.happen-a.result.browser c.loop-due.two c.happen-b.result.browser c.loop-due.first c.happen-a.new.carrier c.loop-due.second c.happen-b.new.carrier c.loop-due.agenda c.next.new.self
    c.happen-a.result.record c.happen-b.result.record _ _ _ _ i.4.2 c.windows.ensures.is c.in-Some.ensures.event c.in-Some.ensures.rest i.0 i.1 kept (c.happen-a.auto.answer ∙ kept) i.2 i.3 c.happen-a.ensures.occurs c.happen-b.ensures.occurs in
    let table : SiteTable = sites_in c.args.one in
    let h : Group = only (number_of c.args.site) in
    let e : Event = event_of c.in-Some.due in
    let left = on_wire_lem h 4096 table (sites_in c.loop-due.one) (length c.loop-due.sent) e (part_of c.loop-due.one) c.happen-a.result.asked (take c.happen-a.result.sent c.happen-a.new.request) i.0 i.2 c.happen-a.ensures.asked c.happen-a.ensures.sent in
    let right = on_wire_lem h 4096 table (sites_in c.loop-due.two) (length c.loop-due.other) e (part_of c.loop-due.two) c.happen-b.result.asked (take c.happen-b.result.sent c.happen-b.new.request) i.1 i.3 c.happen-b.ensures.asked c.happen-b.ensures.sent in
    let none = E.unleaked (c.same_let_out.ensures.0 c.if-not-same_let_out.false) in
    false≢true (c.in-Some-find_leak.ensures.1 (record { alike = none.alike; outs = none.outs; requests = left ∙ none.requests ∙ sym right }))

pub loop-due-smaller : goal.loop-due-smaller
loop-due-smaller g c =
    next_falls (length c.windows.result.now) (agenda_of c.loop-due.agenda) (agenda_of c.next.new.self) (event_of c.in-Some.due) c.windows.ensures.few c.in-Some.ensures.event c.in-Some.ensures.rest

pub loop-due-preserved : goal.loop-due-preserved
loop-due-preserved g c =
    let i = c.loop-due.invariant in
    let kept : length c.loop-due.answer ≡ length c.args.answer.now = c.loop-due.auto.answer in
    let E = events g c.args.site (length c.args.answer.now) c.args.agenda c.args.one c.args.two c.args.first c.args.second c.requires.alike i.4.0 c.in-Some.due c.windows.result.now
    c.loop-due.one c.happen-a.result.browser c.loop-due.two c.happen-b.result.browser c.loop-due.first c.happen-a.new.carrier c.loop-due.second c.happen-b.new.carrier c.loop-due.agenda c.next.new.self
    c.happen-a.result.record c.happen-b.result.record _ _ _ _ i.4.2 c.windows.ensures.is c.in-Some.ensures.event c.in-Some.ensures.rest i.0 i.1 kept (c.happen-a.auto.answer ∙ kept) i.2 i.3 c.happen-a.ensures.occurs c.happen-b.ensures.occurs in (
      c.happen-a.ensures.sites ∙ i.0,
      c.happen-b.ensures.sites ∙ i.1,
      c.happen-a.auto.request ∙ i.2,
      c.happen-b.auto.request ∙ i.3,
      (suc i.4.0, one_more c.loop-due.event i.4.0 c.saturating_add-event.result i.4.1 c.saturating_add-event.ensures, E.more (c.same_let_out.ensures.0 c.if-not-same_let_out.false)),
    )

pub returns : goal.returns
returns g c =
    let i = c.loop-due.invariant in
    let a : Agenda = agenda_of c.loop-due.agenda in
    let over : due (length c.windows.result.now) a ≡ None = none-due (due (length c.windows.result.now) a) c.in_default.ensures.event in (
      i.4.0,
      i.4.1,
      till g c.args.site (length c.args.answer.now) c.args.agenda c.args.one c.args.two c.args.first c.args.second c.requires.alike i.4.0 _ _ i.4.2,
      ap event_now (sym i.4.2.at_one) ∙ ap event_by (ap {B = Option Due} (λ z. due z a) (sym (as_counted (part_of c.loop-due.one) c.windows.result.now c.windows.ensures.is)) ∙ over),
    )
