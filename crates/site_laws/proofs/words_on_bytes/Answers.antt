use Rattle.site_laws.proofs.Bytes.{words_on_bytes}
use Rattle.site_laws.proofs.words_on_bytes.Goals as goal

pub returns : goal.returns
returns g c = words_on_bytes g.row.R.Denot
