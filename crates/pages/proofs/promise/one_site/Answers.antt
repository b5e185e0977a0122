use Rattle.pages.proofs.Whole.{one-site}
use Rattle.pages.proofs.promise.one_site.Goals as goal

pub returns : goal.returns
returns g c = one-site _ _
