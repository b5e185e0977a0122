-- What a server that a script plays does with the bytes of a request.
use Rattle.std.specs.Prelude.{ℕ, List, [], Some, None, Option}
use Rattle.octets.specs.Answers.{Answer, Read, Fault}
use Rattle.requests.specs.Requests.{Asking, read_request}
use Rattle.machine.specs.declared.Told.TheVariants.{Silence}
use Rattle.machine.specs.Script.{State, turn_from, state_after}
use Rattle.script_servers.specs.Told.{kind_of, hears}
use Rattle.script_servers.specs.Replies.{reply_by}

-- a server: the sites that it knows by number, and its script
pub record Player : Type 0 where
  pub sites : List (List ℕ × ℕ)
  pub script : State

abbrev pub player : List (List ℕ × ℕ) → State → Player
player sites x = record { sites = sites; script = x }

-- the script after it was told a request and ran on: at most 10,000 steps
abbrev pub ran_on : State → State
ran_on x = state_after 0 x Silence []

-- what it answers then
abbrev pub replies_with : List (List ℕ × ℕ) → Asking → State → List ℕ
replies_with sites q x = reply_by (turn_from 0 x Silence []).outcome sites (kind_of q.origin) (ran_on x)

-- a request that can't be read does not run the script, and is not answered
abbrev pub served_by : Answer Asking → Player → List ℕ × Player
served_by (Fault n) x = ([], x)
served_by (Read q) x =
    (replies_with x.sites q (hears x.sites q x.script), player x.sites (ran_on (hears x.sites q x.script)))

-- the answer's bytes, and the server's next state
abbrev pub serves : List ℕ → Player → List ℕ × Player
serves request x = served_by (read_request request) x

-- a site that has no server answers nothing
abbrev pub serving : ℕ → List ℕ → Option Player → List ℕ × Option Player
serving site request None = ([], None)
serving site request (Some x) = ((serves request x).0, Some (serves request x).1)
