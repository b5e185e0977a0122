use Rattle.std.proofs.Common.{◌≡◌, map, take, vec_items}
use Rattle.addresses.specs.Views.{site_of}
use Rattle.storage.specs.Tables.{table_of}
use Rattle.loading.proofs.sites.sites_of.Given as goal

abbrev pub invariant-loop-n : goal.invariant-loop-n
invariant-loop-n l = map site_of (vec_items l.sites) ≡ take l.n (table_of l.table)
