use Rattle.pages.proofs.Readings.{each_window}
use Rattle.pages.proofs.views.each_window.Goals as goal

pub returns : goal.returns
returns g c = each_window _ _
