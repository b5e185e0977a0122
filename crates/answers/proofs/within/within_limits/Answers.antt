use Rattle.answers.proofs.Limited.{within_limits}
use Rattle.answers.proofs.within.within_limits.Goals as goal

pub returns : goal.returns
returns c = within_limits
