use Rattle.std.proofs.Common.{◌≡◌, ◌+◌, ◌-◌, ℕ, List, Option, length, Some, None, sym, refl, ap, ◌∙◌, arith, length-set}
use Rattle.std.proofs.lemmas.Grind.{common_steps}
use Rattle.lines.specs.Heads.{head}
use Rattle.lines.specs.Lines.{line_then, field_of}
use Rattle.lines.specs.NamedLines.{bytes_of}
use Rattle.lines.proofs.Marks.{none_named, marked_push}
use Rattle.lines.proofs.Turns.{head-end, head_turn, head_done, head_field, head_more, start, named_none, names_push, named_push}
use Rattle.lines.proofs.Enough.{enough}
use Rattle.lines.proofs.heads.read_fields.Goals as goal

pub loop-k-init : goal.loop-k-init
loop-k-init g c = (start _ _ _, named_none c.args.s.now, λ x _. none_named c.args.s.now x, refl)

pub returns-in_err-line : goal.returns-in_err-line
returns-in_err-line g c =
    let q : ◌≡◌ {A = Option (List ℕ × List ℕ)} None (line_then c.loop-k.rest.now) = grind (arith, common_steps) in
    let e = c.loop-k.invariant.0 ∙ head_turn _ _ _ _ _ _ _ c.loop-k-test.true q in
    record { is = grind (arith, common_steps, e); enough = enough }

pub returns-then-is_empty : goal.returns-then-is_empty
returns-then-is_empty g c =
    let q : ◌≡◌ {A = Option (List ℕ × List ℕ)} (Some (bytes_of c.in_ok-line.line, c.in_ok-line.next.now)) (line_then c.loop-k.rest.now) = grind (arith, common_steps) in
    record { is = sym (c.loop-k.invariant.0 ∙ head_done _ _ _ _ _ _ _ _ c.loop-k-test.true q c.if-is_empty.ensures); enough = enough }

pub returns-in_err-name : goal.returns-in_err-name
returns-in_err-name g c =
    let q : ◌≡◌ {A = Option (List ℕ × List ℕ)} (Some (bytes_of c.in_ok-line.line, c.in_ok-line.next.now)) (line_then c.loop-k.rest.now) = grind (arith, common_steps) in
    let r : ◌≡◌ {A = Option (List ℕ × List ℕ)} None (field_of (bytes_of c.in_ok-line.line)) = grind (arith, common_steps) in
    let e = c.loop-k.invariant.0 ∙ head_field _ _ _ _ _ _ _ _ _ c.loop-k-test.true q c.if-is_empty.ensures r in
    record { is = grind (arith, common_steps, e); enough = enough }

pub returns-in_err-take_field : goal.returns-in_err-take_field
returns-in_err-take_field g c =
    let q : ◌≡◌ {A = Option (List ℕ × List ℕ)} (Some (bytes_of c.in_ok-line.line, c.in_ok-line.next.now)) (line_then c.loop-k.rest.now) = grind (arith, common_steps) in
    let r : ◌≡◌ {A = Option (List ℕ × List ℕ)} (Some (c.in_ok-name.name.now, c.in_ok-name.value.now)) (field_of (bytes_of c.in_ok-line.line)) = grind (arith, common_steps) in
    let e = c.loop-k.invariant.0 ∙ head_more _ _ _ _ _ _ _ _ _ _ _ c.loop-k-test.true q c.if-is_empty.ensures r c.in_err-take_field.ensures in
    record { is = grind (arith, common_steps, e); enough = enough }

pub loop-k-preserved : goal.loop-k-preserved
loop-k-preserved g c =
    let i = c.loop-k.invariant in
    let q : ◌≡◌ {A = Option (List ℕ × List ℕ)} (Some (bytes_of c.in_ok-line.line, c.in_ok-line.next.now)) (line_then c.loop-k.rest.now) = grind (arith, common_steps) in
    let r : ◌≡◌ {A = Option (List ℕ × List ℕ)} (Some (c.in_ok-name.name.now, c.in_ok-name.value.now)) (field_of (bytes_of c.in_ok-line.line)) = grind (arith, common_steps) in
    let push = names_push c.loop-k.k c.args.s.now _ _ _ _ _ i.1 q r in (
      i.0 ∙ head_more _ _ _ _ _ _ _ _ _ _ _ c.loop-k-test.true q c.if-is_empty.ensures r c.in_ok-take_field.ensures
          ∙ ap (λ ns. head g.F.Fields.taking (length c.args.s.now - (c.loop-k.k + 1)) ns (g.F.Fields.known c.take_field.new.fields) c.in_ok-line.next.now) (sym push),
      named_push c.loop-k.k c.args.s.now _ _ _ _ _ i.1 q r,
      marked_push c.loop-k.marks c.loop-k.k c.args.s.now c.in_ok-name.name.now c.slot_of-slot.result i.2 c.slot_of-slot.ensures.is (omega arith) push,
      length-set _ _ _ ∙ i.3,
    )

pub returns : goal.returns
returns g c = record { is = sym (c.loop-k.invariant.0 ∙ head-end _ _ _ _ _ _ c.loop-k-test.false); enough = enough }
