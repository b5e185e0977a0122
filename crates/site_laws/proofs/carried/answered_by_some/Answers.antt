use Rattle.site_laws.proofs.Oracles.{answered_by_some}
use Rattle.site_laws.proofs.carried.answered_by_some.Goals as goal

pub returns : goal.returns
returns g c = answered_by_some g.C.Carrier.carries g.B.Book.notes
