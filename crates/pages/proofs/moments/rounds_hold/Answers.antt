use Rattle.pages.proofs.Rounds.{round_law}
use Rattle.pages.proofs.moments.rounds_hold.Goals as goal

pub returns : goal.returns
returns g c = round_law _ _
