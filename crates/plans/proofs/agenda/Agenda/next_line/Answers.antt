use Rattle.std.proofs.Common.{◌≡◌, ℕ, ◌-◌, ◌≤◌, [], ◌∷◌, ◌++◌, map, None, Option, sym, ap, ◌∙◌, ⊎_elim, arith}
use Rattle.std.specs.Vec.Iter.{into_iter_items}
use Rattle.std.specs.declared.ops.Range.{Range}
use Rattle.settings.specs.Lines.{lines}
use Rattle.settings.specs.Settings.{turns_of}
use Rattle.pages.specs.Runs.{Due, Agenda, line_due, turn_due, count_from, Rounds}
use Rattle.plans.specs.declared.agenda.Agenda.{Agenda as Here}
use Rattle.plans.specs.Agendas.{lines_of, begun_line, to_open, event_in, rest_of}
use Rattle.plans.specs.Plans.{line_of}
use Rattle.plans.proofs.Dues.{only_lines, all_open, none-due, turn_due_lem, round-due, no_rounds, no_windows}
use Rattle.plans.proofs.agenda.Agenda.next_line.Goals as goal

-- what the function had at its start still holds of an agenda with the same windows
past : (x y : Here) → into_iter_items x.opens ≡ [] → x.round.end ≤ x.round.start → y.opens ≡ x.opens → y.round ≡ x.round → (into_iter_items y.opens ≡ []) × (y.round.end ≤ y.round.start)
past x y h l a b = (ap into_iter_items a ∙ h, omega (arith, l, ap (λ (r : Range ℕ). r.start) b, ap (λ (r : Range ℕ). r.end) b))

pub returns-in-Window : goal.returns-in-Window
returns-in-Window c =
    let x : Here = c.take_line.new.self in
    let t = c.in-Some.ensures in
    let i = c.loop-line.invariant in
    let e : ◌≡◌ {A = Option Due} (line_due c.args.windows (lines_of c.args.self.now)) (turn_due c.in-Window.window [] (lines_of x)) =
    sym i.0 ∙ ap {B = Option Due} (line_due c.args.windows) (t.line ∙ ap (λ z. line_of z ∷ lines_of x) c.in-Window.is) ∙ turn_due_lem c.args.windows (lines_of x) c.in-Window.window in
    let p = past c.args.self.now x c.requires.opened c.requires.round (t.rest.0 ∙ i.1) (t.rest.1 ∙ i.2) in
    record {
      event = sym (ap event_in e);
      rest = all_open to_open x.opens x.round.start x.round.end (lines_of x) p.0 p.1 ∙ sym (ap rest_of e);
    }

pub returns-then-windows-gt0 : goal.returns-then-windows-gt0
returns-then-windows-gt0 c =
    let x : Here = c.take_line.new.self in
    let t = c.in-Some.ensures in
    let i = c.loop-line.invariant in
    let n : ℕ = c.in-Rounds.n in
    let m : ℕ = c.args.windows in
    let e : ◌≡◌ {A = Option Due} (line_due m (lines_of c.args.self.now)) (turn_due 0 (count_from 1 (m - 1)) (Rounds (n - 1) ∷ lines_of x)) =
    sym i.0 ∙ ap {B = Option Due} (line_due m) (t.line ∙ ap (λ z. line_of z ∷ lines_of x) c.in-Rounds.is) ∙ round-due m (lines_of x) n (omega arith) (omega arith) in
    let r : lines_of x ≡ map line_of (turns_of (lines x.turns.text.now)) = ap (λ z. begun_line z ++ map line_of (turns_of (lines x.turns.text.now))) t.begun in
    let p = past c.args.self.now x c.requires.opened c.requires.round (t.rest.0 ∙ i.1) (t.rest.1 ∙ i.2) in
    let o : map to_open (into_iter_items x.opens) ≡ [] = ap (λ (z : Agenda). z.opens) (all_open to_open x.opens x.round.start x.round.end (lines_of x) p.0 p.1) in
    record {
      event = sym (ap event_in e);
      rest =
          ap {B = Agenda} (λ z. record { opens = z; round = count_from 1 (m - 1); lines = Rounds (n - 1) ∷ map line_of (turns_of (lines x.turns.text.now)) }) o
          ∙ ap {B = Agenda} (λ z. record { opens = []; round = count_from 1 (m - 1); lines = Rounds (n - 1) ∷ z }) (sym r)
          ∙ sym (ap rest_of e);
    }

pub loop-line-preserved : goal.loop-line-preserved
loop-line-preserved c =
    let x : Here = c.take_line.new.self in
    let t = c.in-Some.ensures in
    let i = c.loop-line.invariant in
    let n : ℕ = c.in-Rounds.n in
    let m : ℕ = c.args.windows in
    let skip : ◌≡◌ {A = Option Due} (line_due m (Rounds n ∷ lines_of x)) (line_due m (lines_of x)) =
    ⊎_elim (λ h. no_windows m n (lines_of x) (omega arith)) (λ h. no_rounds m (lines_of x) n (omega arith)) c.else-n-gt0.either in
    (sym skip ∙ sym (ap {B = Option Due} (line_due m) (t.line ∙ ap (λ z. line_of z ∷ lines_of x) c.in-Rounds.is)) ∙ i.0, t.rest.0 ∙ i.1, t.rest.1 ∙ i.2)

pub returns : goal.returns
returns c =
    let x : Here = c.take_line.new.self in
    let t = c.in_default.ensures in
    let i = c.loop-line.invariant in
    let e : ◌≡◌ {A = Option Due} (line_due c.args.windows (lines_of c.args.self.now)) None =
    sym i.0 ∙ ap {B = Option Due} (line_due c.args.windows) t.line.0 ∙ none-due c.args.windows [] in
    let p = past c.args.self.now x c.requires.opened c.requires.round (t.rest.0 ∙ i.1) (t.rest.1 ∙ i.2) in
    record {
      event = sym (ap event_in e);
      rest = all_open to_open x.opens x.round.start x.round.end (lines_of x) p.0 p.1 ∙ ap only_lines t.line.1 ∙ sym (ap rest_of e);
    }
