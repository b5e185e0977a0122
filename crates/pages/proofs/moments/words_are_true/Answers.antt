-- The words that wait, at the types that the call names.
use Rattle.pages.proofs.TrueWords.{words_truly}
use Rattle.pages.proofs.moments.words_are_true.Goals as goal

pub returns : goal.returns
returns g c = words_truly _ _
