use Rattle.site_laws.proofs.Bytes.{browser_is_code}
use Rattle.site_laws.proofs.browser_is_code.Goals as goal

pub returns : goal.returns
returns g c = browser_is_code g.row.R.Denot
