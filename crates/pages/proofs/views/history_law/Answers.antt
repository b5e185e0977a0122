use Rattle.pages.proofs.Effects.{history_law}
use Rattle.pages.proofs.views.history_law.Goals as goal

pub returns : goal.returns
returns g c = history_law _ _
