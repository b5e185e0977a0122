use Rattle.pages.proofs.Effects.{touched_only}
use Rattle.pages.proofs.views.touched_only.Goals as goal

pub returns : goal.returns
returns g c = touched_only _ _
