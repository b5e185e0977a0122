-- Servers that have not begun stay so while scripts are read.
use Rattle.std.proofs.Common.{◌≡◌, ℕ, cond, eqb, ltb, List, [], Some, None, Ok, Err, vec_items, Option, Result, sym, ap, ◌∙◌, subst}
use Rattle.std.specs.Option.{option_map}
use Rattle.std.specs.List.{slice_get}
use Rattle.std.proofs.lemmas.Bool.{cond-true, cond_both, eqb-true}
use Rattle.octets.proofs.Options.{none-some, some_same}
use Rattle.addresses.specs.declared.Site.{Site}
use Rattle.scripts.specs.declared.Step.{Step}
use Rattle.scripts.specs.declared.Unreadable.{Unreadable}
use Rattle.machine.specs.Script.{State, initial}
use Rattle.pages.specs.Browser.{at}
use Rattle.script_servers.specs.declared.family.ScriptServers.{ScriptServers}
use Rattle.script_servers.specs.declared.server.Server.{Server}
use Rattle.script_servers.specs.Serving.{Player, player}
use Rattle.script_servers.specs.Views.{sites_of, state_of}
use Rattle.script_servers.specs.Family.{states_of, unwritten, beginner, added_to}
use Rattle.loading.specs.Fresh.{Fresh}

-- a server that is there knows the sites that it was made with
known_by : (own sites : List (List ℕ × ℕ)) (v : Option Server) (x : State) → option_map (λ y. player own (state_of y)) v ≡ Some (player sites x) → own ≡ sites
known_by own sites None x e = absurd (none-some (player sites x) e)
known_by own sites (Some y) x e = ap (λ p. p.sites) (some_same (player own (state_of y)) (player sites x) e)

knows : (x : ScriptServers) (sites : List Site) → Fresh sites (states_of x) → sites_of x.sites.now ≡ sites_of sites
knows x sites f = known_by (sites_of x.sites.now) (sites_of sites) (slice_get (vec_items x.servers) 0) (initial (f 0).0) (f 0).1

pub new_fresh : (x : ScriptServers) (sites : List Site) → states_of x ≡ unwritten sites → Fresh sites (states_of x)
new_fresh x sites e s = ([], ap (λ f. f s) e)

-- one server has another script, at whose beginning it is
added-fresh : (x : ScriptServers) (sites : List Site) (site : ℕ) (r : Result (List Step) Unreadable) → Fresh sites (states_of x) → Fresh sites (added_to x site r)
added-fresh x sites site (Err fault) f s = f s
added-fresh x sites site (Ok script) f s =
    let mine = beginner x.sites.now script in
    cond_both (ltb site 16) (at site mine (states_of x)) (states_of x) (λ g. (k : List Step) × (g s ≡ cond (ltb s 16) (beginner sites k) None))
    (λ h.
    cond_both (eqb s site) mine (states_of x s) (λ o. (k : List Step) × (o ≡ cond (ltb s 16) (beginner sites k) None))
    (λ e. (
      script,
      ap (λ z. Some (player z (initial script))) (knows x sites f) ∙ sym (cond-true (ltb s 16) (beginner sites script) None (ap (λ j. ltb j 16) (eqb-true s site e) ∙ h)),
    ))
    (λ _. f s))
    (λ _. f s)

pub add-fresh : (x y : ScriptServers) (site : ℕ) (r : Result (List Step) Unreadable) → states_of y ≡ added_to x site r → (sites : List Site) → Fresh sites (states_of x) → Fresh sites (states_of y)
add-fresh x y site r e sites f = subst (λ (g : ℕ → Option Player). Fresh sites g) (sym e) (added-fresh x sites site r f)
