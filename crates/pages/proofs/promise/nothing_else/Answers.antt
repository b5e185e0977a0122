use Rattle.pages.proofs.Whole.{nothing_else}
use Rattle.pages.proofs.promise.nothing_else.Goals as goal

pub returns : goal.returns
returns g c = nothing_else _ _
