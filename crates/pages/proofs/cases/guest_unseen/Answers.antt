use Rattle.pages.proofs.Table.{guest_unseen}
use Rattle.pages.proofs.cases.guest_unseen.Goals as goal

pub returns : goal.returns
returns c = guest_unseen
