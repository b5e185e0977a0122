use Rattle.site_laws.proofs.Bytes.{told_who_asks}
use Rattle.site_laws.proofs.told_who_asks.Goals as goal

pub returns : goal.returns
returns c = told_who_asks
