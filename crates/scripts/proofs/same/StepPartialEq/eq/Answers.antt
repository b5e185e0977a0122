use Rattle.std.proofs.Common.{◌≡◌, Decides, rules}
use Rattle.std.specs.Cmp.Rules.{comparing}
use Rattle.std.proofs.lemmas.Bool.Decides.{same_from_decides}
use Rattle.scripts.proofs.StepBytes.{same_step, steps_decide}
use Rattle.scripts.proofs.same.StepPartialEq.eq.Goals as goal

-- the bytes and the parts both decide whether the steps are the same
pub returns-clause-is : goal.returns-clause-is
returns-clause-is c =
    let by_bytes : Decides c.eq.result (c.args.self.now ≡ c.args.other.now) = search (rules, comparing, same_step) in
    same_from_decides _ _ by_bytes (steps_decide _ _)
