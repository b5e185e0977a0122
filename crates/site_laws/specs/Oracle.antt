-- Servers that give certain answers, one after the other.
use Rattle.std.specs.Prelude.{◌≡◌, ℕ, List, [], ◌∷◌, map, reverse, length}
use Rattle.machine.specs.Script.{State}
use Rattle.pages.specs.Sites.{Bytes, Request, Sites}
use Rattle.pages.specs.Browser.{Part}
use Rattle.pages.specs.Runs.{Agenda, Run, step, after, trace, outs_now}
use Rattle.browser.specs.Wire.{SiteTable, sites_of}
use Rattle.book.specs.Records.{Entry}
use Rattle.runs.specs.Chains.{Reached, Moment, Step}

-- A server whose state is the list of the answers that it has yet to give.
abbrev pub listed : Request → List Bytes → Bytes × List Bytes
listed q [] = ([], [])
listed q (a ∷ rest) = (a, rest)

-- The sites of a table with such servers.
abbrev pub listed_sites : SiteTable → Sites State (List Bytes)
listed_sites table = sites_of table listed

-- The run that begins with these answers still to be given.
abbrev pub run_with : Part State → Agenda → (ℕ → List Bytes) → Run State (List Bytes)
run_with b a r = record { world = record { part = b; servers = r }; agenda = a }

-- THERE ARE SUCH SERVERS: a chain of events, whatever was answered in it, is the promise's run with servers that give just these answers, which are all given at its end; and what was let out is the promise's, event by event.
pub record ByServers {C B : Type 0} (table : SiteTable) (x : Moment C B) (entries : List Entry) (y : Moment C B) : Type 0 where
  pub answers : ℕ → List Bytes
  pub run_so : after (listed_sites table) (length entries) (run_with x.part x.agenda answers) ≡ run_with y.part y.agenda (λ s. [])
  pub outs_so : map (λ e. e.outs) (reverse entries) ≡ trace (step (listed_sites table)) (outs_now (listed_sites table)) (length entries) (run_with x.part x.agenda answers)

-- So it is for every chain of events over a carrier and a book.
abbrev pub AnsweredBySome : {C B : Type 0} → (ℕ → C → ℕ → Bytes → Bytes → C → Type 0) → (B → Entry → B → Type 0) → Type 0
AnsweredBySome {C} {B} carries notes = (answer room : ℕ) (table : SiteTable) (x : Moment C B) (entries : List Entry) (y : Moment C B) → Reached (Step (carries answer) notes room table) x entries y → ByServers table x entries y
