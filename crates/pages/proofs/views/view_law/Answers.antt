use Rattle.pages.proofs.Effects.{view_law}
use Rattle.pages.proofs.views.view_law.Goals as goal

pub returns : goal.returns
returns g c = view_law _ _
