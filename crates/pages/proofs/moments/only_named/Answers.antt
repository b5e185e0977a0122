-- The named sites, at the types that the call names.
use Rattle.pages.proofs.NamedSites.{only-named}
use Rattle.pages.proofs.moments.only_named.Goals as goal

pub returns : goal.returns
returns g c = only-named _ _
