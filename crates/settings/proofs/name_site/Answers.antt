use Rattle.std.proofs.Common.{◌∙◌}
use Rattle.addresses.specs.Views.{site_of}
use Rattle.bounded.specs.Fixed.{items_of}
use Rattle.settings.proofs.Places.{pushed_number}
use Rattle.settings.proofs.name_site.Goals as goal

pub returns-clause-is : goal.returns-clause-is
returns-clause-is c = c.push.ensures.is ∙ pushed_number site_of c.args.site (items_of c.args.sites.now) c.in_default.ensures
