-- The limits, at the types that the call names.
use Rattle.pages.proofs.Bounds.{limits}
use Rattle.pages.proofs.moments.limits_hold.Goals as goal

pub returns : goal.returns
returns g c = limits _ _
