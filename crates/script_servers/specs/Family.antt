-- The states of a family of servers.
use Rattle.std.specs.Prelude.{ℕ, Bool, cond, List, [], Some, None, Ok, Err, vec_items, Option, Result, nat_lt}
use Rattle.addresses.specs.declared.Site.{Site}
use Rattle.scripts.specs.declared.Step.{Step}
use Rattle.scripts.specs.declared.Unreadable.{Unreadable}
use Rattle.machine.specs.Script.{initial}
use Rattle.pages.specs.Browser.{at}
use Rattle.script_servers.specs.declared.family.ScriptServers.{ScriptServers}
use Rattle.script_servers.specs.Serving.{Player, player}
use Rattle.script_servers.specs.Views.{sites_of, player_at}

-- the server of each site
abbrev pub states_of : ScriptServers → ℕ → Option Player
states_of x = player_at (sites_of x.sites.now) (vec_items x.servers)

-- a server whose script has not begun
abbrev pub beginner : List Site → List Step → Option Player
beginner sites script = Some (player (sites_of sites) (initial script))

-- servers with scripts of no steps, for 16 sites
abbrev pub unwritten : List Site → ℕ → Option Player
unwritten sites s = cond (nat_lt s 16) (beginner sites []) None

-- whether a script was read, and there is such a site
abbrev pub added : ℕ → Result (List Step) Unreadable → Result Bool Unreadable
added site (Ok script) = Ok (nat_lt site 16)
added site (Err fault) = Err fault

-- one server begins anew with a script that was read, and the others go on
abbrev pub added_to : ScriptServers → ℕ → Result (List Step) Unreadable → ℕ → Option Player
added_to x site (Ok script) = cond (nat_lt site 16) (at site (beginner x.sites.now script) (states_of x)) (states_of x)
added_to x site (Err fault) = states_of x
