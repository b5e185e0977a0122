use Rattle.pages.proofs.Readings.{readings}
use Rattle.pages.proofs.views.readings.Goals as goal

pub returns : goal.returns
returns g c = readings _ _
