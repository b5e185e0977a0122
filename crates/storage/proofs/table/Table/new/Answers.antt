use Rattle.std.proofs.Common.{map, ap}
use Rattle.storage.specs.Rows.{all_sites, row_of}
use Rattle.storage.proofs.table.Table.new.Goals as goal

pub invariant_of-result : goal.invariant_of-result
unfolding all_sites
invariant_of-result c = record { sites = ap (λ rows. all_sites (map row_of rows)) c.empty-2.ensures }
