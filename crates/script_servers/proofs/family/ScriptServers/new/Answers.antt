use Rattle.std.proofs.Common.{ℕ, cond, ltb, Some, None, Option, ap, ◌∙◌}
use Rattle.machine.specs.Script.{State, initial}
use Rattle.script_servers.specs.Serving.{Player, player}
use Rattle.script_servers.specs.Views.{sites_of}
use Rattle.script_servers.proofs.Families.{new_states}
use Rattle.script_servers.proofs.family.ScriptServers.new.Goals as goal

pub returns : goal.returns
returns c =
    let sites = sites_of c.args.sites.now in
    new_states sites c.new.result _ (c.in_ok-servers.ensures.items_if_clones_equal (λ y p. p))
    ∙ ap {B = ℕ → Option Player} (λ (x : State). λ s. cond (ltb s 16) (Some (player sites x)) None) (c.new.ensures ∙ ap initial c.empty.ensures)
