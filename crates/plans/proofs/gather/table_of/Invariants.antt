use Rattle.std.proofs.Common.{◌≡◌, take}
use Rattle.settings.specs.Views.{sites_in}
use Rattle.storage.specs.Tables.{table_of}
use Rattle.plans.specs.Fits.{AllSites}
use Rattle.plans.proofs.gather.table_of.Given as goal

abbrev pub invariant-loop-site : goal.invariant-loop-site
invariant-loop-site l = AllSites (sites_in l.sites) → table_of l.table ≡ take l.site-index (sites_in l.sites)
