use Rattle.std.proofs.Common.{◌∙◌, rules, tests}
use Rattle.std.proofs.lemmas.Iterator.{YieldsList-from_slice}
use Rattle.std.proofs.lemmas.Iterator.Search.{position_from_yields_List}
use Rattle.addresses.specs.Views.{site_eq}
use Rattle.bounded.specs.Fixed.{items_of}
use Rattle.settings.proofs.Places.{number-position}
use Rattle.settings.proofs.number_of.Goals as goal

pub returns : goal.returns
returns c =
    let sites = items_of c.args.sites.now in
    position_from_yields_List (site_eq c.args.site) _ _ _ c.position.ensures.ran (YieldsList-from_slice sites cc) (λ x b q k. search (rules, tests))
    ∙ number-position c.args.site sites
