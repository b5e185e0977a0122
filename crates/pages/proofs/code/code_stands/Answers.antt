use Rattle.pages.proofs.Term.{code_stands}
use Rattle.pages.proofs.code.code_stands.Goals as goal

pub returns : goal.returns
returns g c = code_stands _ _
