use Rattle.site_laws.proofs.Bytes.{promise_on_bytes}
use Rattle.site_laws.proofs.promise_on_bytes.Goals as goal

pub returns : goal.returns
returns g c = promise_on_bytes g.row.R.Denot
