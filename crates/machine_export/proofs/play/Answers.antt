use Rattle.std.proofs.Common.{◌∙◌, arith}
use Rattle.machine_export.proofs.Played.{plays-more, plays-none}
use Rattle.machine_export.proofs.play.Goals as goal

pub loop-i-preserved : goal.loop-i-preserved
loop-i-preserved c = (
  plays-more _ _ _ _ _ _ _ _ _ _ _ (omega arith) c.turn.ensures.turn c.count-done.ensures.value ∙ c.loop-i.invariant.0,
  omega (arith, c.count-done.ensures.small),
)

pub returns : goal.returns
returns c = plays-none _ _ _ _ (omega arith) ∙ c.loop-i.invariant.0
