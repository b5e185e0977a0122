-- Servers that have not begun.
use Rattle.std.specs.Prelude.{◌≡◌, ℕ, cond, List, None, Option, nat_lt}
use Rattle.addresses.specs.declared.Site.{Site}
use Rattle.scripts.specs.declared.Step.{Step}
use Rattle.script_servers.specs.Serving.{Player}
use Rattle.script_servers.specs.Family.{beginner}

-- A server for each number below 16, which knows these sites and is at the beginning of its script, whatever that is.
abbrev pub Fresh : List Site → (ℕ → Option Player) → Type 0
Fresh sites states = (s : ℕ) → (script : List Step) × (states s ≡ cond (nat_lt s 16) (beginner sites script) None)
