use Rattle.std.proofs.Common.{sym, ◌∙◌}
use Rattle.std.proofs.lemmas.Slice.Eq.{slice_eq-Decides}
use Rattle.scripts.proofs.same.ScriptPartialEq.eq.Goals as goal
use Rattle.scripts.proofs.StepBytes.{steps_decide}

pub returns-clause-same : goal.returns-clause-same
returns-clause-same c =
    let d = slice_eq-Decides steps_decide _ _ _ c.eq.ensures in
    let a = c.steps-a.ensures.steps in
    let b = c.steps-b.ensures.steps in
    (λ e. sym a ∙ d.0 e ∙ b, λ q. d.1 (a ∙ q ∙ sym b))
