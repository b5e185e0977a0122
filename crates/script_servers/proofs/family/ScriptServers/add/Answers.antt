use Rattle.std.proofs.Common.{◌<◌, ltb, length, Some, vec_items, sym, ap, ◌∙◌, arith}
use Rattle.std.proofs.lemmas.Bool.{cond-true, lt-ltb}
use Rattle.pages.specs.Browser.{at}
use Rattle.script_servers.specs.Family.{states_of, added_to}
use Rattle.script_servers.specs.Serving.{player}
use Rattle.script_servers.specs.Views.{sites_of}
use Rattle.script_servers.proofs.Families.{states_set}
use Rattle.script_servers.proofs.family.ScriptServers.add.Goals as goal

pub returns-clause-after : goal.returns-clause-after
returns-clause-after c =
    let self = c.args.self.now in
    let site = c.args.site in
    let is = lt-ltb site 16 c.if-site-ge16.false in
    let within : site < length (vec_items self.servers) = omega (arith, self.servers.ok, self.all) in
    states_set _ _ site c.new.result within
    ∙ ap (λ x. at site (Some (player (sites_of self.sites.now) x)) (states_of self)) c.new.ensures
    ∙ sym (cond-true (ltb site 16) _ _ is) ∙ ap (added_to self site) c.in_ok-script.ensures
