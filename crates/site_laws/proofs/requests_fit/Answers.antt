use Rattle.site_laws.proofs.Short.{requests_fit}
use Rattle.site_laws.proofs.requests_fit.Goals as goal

pub returns : goal.returns
returns c = requests_fit
