use Rattle.std.proofs.Common.{◌-◌, arith, ◌∙◌}
use Rattle.machine.proofs.Runs.{none_left, goes_on, waits_then, fails}
use Rattle.machine.proofs.Machine.run.Goals as goal

pub steps-preserved : goal.steps-preserved
steps-preserved c = goes_on _ _ _ _ _ _ _ _ (omega arith) c.step.ensures (cc) ∙ c.steps.invariant

pub returns-in_err-act : goal.returns-in_err-act
returns-in_err-act c =
    let e = fails _ _ (c.steps.left - 1) _ _ _ _ _ (omega arith) c.step.ensures _ c.in_err-act.was ∙ c.steps.invariant in
    grind (arith, e)

pub returns-then-left-eq0 : goal.returns-then-left-eq0
returns-then-left-eq0 c = none_left _ _ _ _ (omega arith) ∙ c.steps.invariant

pub returns-in-Some : goal.returns-in-Some
returns-in-Some c =
    waits_then _ _ (c.steps.left - 1) _ _ _ _ _ (omega arith) c.step.ensures _ (cc) ∙ c.steps.invariant
