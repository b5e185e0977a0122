use Rattle.site_laws.proofs.Barred.{barred_alike}
use Rattle.site_laws.proofs.barred_told_alike.Goals as goal

pub returns : goal.returns
returns c = barred_alike
