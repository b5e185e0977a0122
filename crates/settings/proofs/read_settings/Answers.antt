use Rattle.std.proofs.Common.{◌≡◌, ◌+◌, Err, Result, sym, ap, ◌∙◌, arith}
use Rattle.std.proofs.lemmas.Result.{err_from_is_err_and}
use Rattle.settings.specs.Heads.{head_of}
use Rattle.settings.specs.Lines.{lines, head_line}
use Rattle.settings.specs.Settings.{Bad, lines_from, with_turns}
use Rattle.settings.specs.Views.{fault_number, settings_of, outcome_of}
use Rattle.settings.proofs.Cuts.{next-shorter}
use Rattle.settings.proofs.Naming.{names_one, names_many, turns-begin}
use Rattle.settings.proofs.read_settings.Goals as goal

err_same : {A E : Type 0} (x y : E) → ◌≡◌ {A = Result A E} (Err x) (Err y) → x ≡ y
err_same x y e = cc

pub returns-in_err-add : goal.returns-in_err-add
returns-in_err-add c =
    let p = err_from_is_err_and c.from_residual.result c.from_residual.ensures.1 in
    ap outcome_of (p.1 ∙ ap Err (p.2 ∙ err_same _ _ c.in_err-add.ensures.full))
    ∙ sym (c.loop-head.invariant.0 ∙ names_many (settings_of c.loop-head.settings) (c.loop-head.line + 1) c.loop-head.rest.now c.in-Some.next.now (head_of c.in-Some.head) (sym c.in-Some.ensures) (sym c.in_err-add.ensures.is))

pub loop-head-smaller : goal.loop-head-smaller
loop-head-smaller c = next-shorter head_line c.loop-head.rest.now c.in-Some.next.now (head_of c.in-Some.head) c.in-Some.ensures

pub loop-head-preserved : goal.loop-head-preserved
loop-head-preserved c =
    let now = c.in_ok-add.ensures.left in (
      c.loop-head.invariant.0
          ∙ names_one (settings_of c.loop-head.settings) (c.loop-head.line + 1) c.loop-head.rest.now c.in-Some.next.now (head_of c.in-Some.head) (sym c.in-Some.ensures) (sym c.in_ok-add.ensures.is)
          ∙ ap (λ d. lines_from d (c.loop-head.line + 1 + 1) (lines c.in-Some.next.now)) (sym now),
      ap (λ d. d.turns) now ∙ c.loop-head.invariant.1,
      omega (arith, next-shorter head_line c.loop-head.rest.now c.in-Some.next.now (head_of c.in-Some.head) c.in-Some.ensures, c.loop-head.invariant.2),
    )

pub returns-in_err-check_turns : goal.returns-in_err-check_turns
returns-in_err-check_turns c =
    let p = err_from_is_err_and c.from_residual-in_err-check_turns.result c.from_residual-in_err-check_turns.ensures.1 in
    let d = settings_of c.loop-head.settings in
    ap outcome_of p.1
    ∙ ap (λ e. Bad (fault_number e.fault) e.line) p.2
    ∙ sym (c.loop-head.invariant.0 ∙ turns-begin d (c.loop-head.line + 1) c.loop-head.rest.now c.loop-head.invariant.1 (sym c.in_default.ensures) ∙ sym (ap (with_turns d) c.in_err-check_turns.ensures))

pub returns : goal.returns
returns c =
    let d = settings_of c.loop-head.settings in
    sym (c.loop-head.invariant.0 ∙ turns-begin d (c.loop-head.line + 1) c.loop-head.rest.now c.loop-head.invariant.1 (sym c.in_default.ensures) ∙ sym (ap (with_turns d) c.in_ok-check_turns.ensures))
