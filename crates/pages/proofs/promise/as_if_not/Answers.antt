use Rattle.pages.proofs.Whole.{as_if_not}
use Rattle.pages.proofs.promise.as_if_not.Goals as goal

pub returns : goal.returns
returns g c = as_if_not _ _
