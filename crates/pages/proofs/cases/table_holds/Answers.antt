use Rattle.pages.proofs.Table.{table_holds}
use Rattle.pages.proofs.cases.table_holds.Goals as goal

pub returns : goal.returns
returns c = table_holds
