use Rattle.std.proofs.Common.{◌≡◌, ◌+◌, ◌-◌, [], map, Some, Option, sym, ap, ◌∙◌, arith}
use Rattle.pages.specs.Browser.{Event, TurnOf}
use Rattle.pages.specs.Runs.{Due, Agenda, due, due_by, count_from, turn_due}
use Rattle.plans.specs.declared.agenda.Agenda.{Agenda as Here}
use Rattle.plans.specs.Agendas.{agenda_of, lines_of, to_open, event_in, rest_of}
use Rattle.plans.proofs.Dues.{only_lines, none_left, all_open, round-more}
use Rattle.plans.proofs.agenda.Agenda.next.Goals as goal

pub returns-in-Some-next : goal.returns-in-Some-next
returns-in-Some-next c =
    let x : Here = c.args.self.now in
    let n = x.round.start in
    let k = x.round.end in
    let t = c.next-2.new.self in
    let s = c.in-Some-next.ensures.steps in
    let e : ◌≡◌ {A = Option Due} (due c.args.windows (agenda_of x)) (turn_due n (count_from (n + 1) (k - (n + 1))) (lines_of x)) =
    ap {B = Option Due} (λ z. due_by c.args.windows (map to_open z) (count_from n (k - n)) (lines_of x)) (none_left x.opens c.in_default.ensures.cases.0)
    ∙ ap {B = Option Due} (λ z. due_by c.args.windows [] z (lines_of x)) (round-more n k (omega (arith, s.1.0))) in
    record {
      event = ap {B = Option Event} (λ z. Some (TurnOf z)) s.1.1 ∙ sym (ap event_in e);
      rest =
          ap {B = Agenda} (λ z. record { opens = map to_open z; round = count_from t.start (t.end - t.start); lines = lines_of x }) (none_left c.next.new.self c.in_default.ensures.cases.1)
          ∙ ap {B = Agenda} (λ z. record { opens = []; round = count_from z (t.end - z); lines = lines_of x }) (omega (arith, s.1.2))
          ∙ ap {B = Agenda} (λ z. record { opens = []; round = count_from (n + 1) (z - (n + 1)); lines = lines_of x }) s.0
          ∙ sym (ap rest_of e);
    }

pub returns : goal.returns
returns c =
    let x : Here = c.args.self.now in
    let s = c.in_default-next.ensures.steps in
    let e : ◌≡◌ {A = Option Due} (due c.args.windows (agenda_of x)) (due c.args.windows (only_lines (lines_of x))) =
    ap {B = Option Due} (due c.args.windows) (all_open to_open x.opens x.round.start x.round.end (lines_of x) (none_left x.opens c.in_default.ensures.cases.0) (omega (arith, s.1.0))) in
    record { event = c.next_line.ensures.event ∙ sym (ap event_in e); rest = c.next_line.ensures.rest ∙ sym (ap rest_of e) }
