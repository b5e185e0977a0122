-- What the code's values stand for.
use Rattle.std.specs.Prelude.{ℕ, List, map, Option}
use Rattle.std.specs.Option.{option_map}
use Rattle.std.specs.List.{slice_get}
use Rattle.addresses.specs.declared.Site.{Site}
use Rattle.addresses.specs.Views.{site_of}
use Rattle.scripts.specs.Scripts.{steps_of}
use Rattle.machine.specs.Script.{State, state}
use Rattle.script_servers.specs.declared.server.Server.{Server}
use Rattle.script_servers.specs.Serving.{Player, player}

-- a server's script, its machine and its memory
abbrev pub state_of : Server → State
state_of x = state x.machine x.memory (steps_of x.script)

-- a table of sites: hosts and ports
abbrev pub sites_of : List Site → List (List ℕ × ℕ)
sites_of sites = map site_of sites

-- the server of a site, if it has one
abbrev pub player_at : List (List ℕ × ℕ) → List Server → ℕ → Option Player
player_at sites servers s = option_map (λ x. player sites (state_of x)) (slice_get servers s)
