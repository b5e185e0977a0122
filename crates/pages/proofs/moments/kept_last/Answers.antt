-- What is kept, at the types that the call names.
use Rattle.pages.proofs.LastKept.{kept_last}
use Rattle.pages.proofs.moments.kept_last.Goals as goal

pub returns : goal.returns
returns g c = kept_last _ _
