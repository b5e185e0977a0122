use Rattle.std.proofs.Common.{ap, ◌∙◌, rules, tests}
use Rattle.std.specs.Option.{unwrap_or}
use Rattle.std.proofs.lemmas.Iterator.{YieldsList-from_slice, YieldsList-from_take}
use Rattle.std.proofs.lemmas.Iterator.Search.{position_from_yields_List}
use Rattle.addresses.specs.Views.{site_eq}
use Rattle.script_servers.proofs.Numbers.{number-position}
use Rattle.script_servers.proofs.server.hear.number_of.Goals as goal

pub returns : goal.returns
returns c =
    let sites = c.args.sites.now in
    let first = position_from_yields_List (λ x. site_eq x c.args.site) _ _ _ c.position-place.ensures.ran (YieldsList-from_take 16 (YieldsList-from_slice sites cc) cc) (λ x b q k. search (rules, tests)) in
    c.unwrap_or.ensures ∙ ap (λ o. unwrap_or o 16) first ∙ number-position c.args.site sites
