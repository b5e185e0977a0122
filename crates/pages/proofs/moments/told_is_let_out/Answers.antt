-- What an asking page is told, at the types that the call names.
use Rattle.pages.proofs.LetOuts.{told_is_let_out}
use Rattle.pages.proofs.moments.told_is_let_out.Goals as goal

pub returns : goal.returns
returns g c = told_is_let_out _ _
