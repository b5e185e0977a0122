use Rattle.pages.proofs.Whole.{from_settings}
use Rattle.pages.proofs.promise.from_settings.Goals as goal

pub returns : goal.returns
returns g c = from_settings _ _
