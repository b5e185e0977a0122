-- A run over servers in this process, in the words of the promise.
use Rattle.std.specs.Prelude.{◌≡◌, ℕ, List, [], map, reverse, length, Some, None, Option}
use Rattle.machine.specs.Script.{State}
use Rattle.pages.specs.Sites.{Bytes, Request, Sites}
use Rattle.pages.specs.Browser.{World}
use Rattle.pages.specs.Runs.{Agenda, Run, Due, due_now, event_now, step, after, trace, outs_now}
use Rattle.browser.specs.Parts.{nothing}
use Rattle.browser.specs.Wire.{SiteTable, sites_of, on_bytes}
use Rattle.servers.specs.Answering.{fitting}
use Rattle.book.specs.Records.{Entry}
use Rattle.runs.specs.Events.{asked, sent, entry_for}
use Rattle.runs.specs.Chains.{Reached}

-- What a family of servers does with the bytes of a request in a state.
abbrev pub Serving : Type 0 → Type 0
Serving R = ℕ → Bytes → R → Bytes × R

module _ {R : Type 0} (serving : Serving R) (request answer : ℕ) where
  -- The same within rooms for requests and answers: what does not fit is no bytes at all.
  abbrev pub within : Serving R
  within site bytes r = (fitting answer (serving site (fitting request bytes) r).0, (serving site (fitting request bytes) r).1)

  -- THE SITES of a table, with these servers.
  abbrev pub sites_with : SiteTable → Sites State R
  sites_with table = sites_of table (on_bytes table within)

  -- What is answered to a request, if there is one.
  abbrev pub answer_to : SiteTable → Option Request → (ℕ → R) → Bytes
  answer_to table None r = []
  answer_to table (Some q) r = fitting answer (serving q.site (sent request table (Some q)) (r q.site)).0

  -- What the book holds of what is due, if anything is.
  abbrev pub entry_on : SiteTable → World State R → Option Due → Option Entry
  entry_on table w None = None
  entry_on table w (Some d) = Some (entry_for table d.event (answer_to table (asked table d.event w.part) w.servers) w.part)

  -- What the book holds of this moment.
  abbrev pub entry_now : SiteTable → Run State R → Option Entry
  entry_now table x = entry_on table x.world (due_now x)

-- A browser that has nothing yet, and servers in these states.
abbrev pub beginning : {R : Type 0} → Agenda → (ℕ → R) → Run State R
beginning agenda r = record { world = record { part = nothing; servers = r }; agenda = agenda }

-- THE RUN OF THE PROMISE: so many events as the book has entries; the world afterwards, the entries and what was let out in each are those of the promise's run, and nothing is to be done any more.
pub record RanExactly {R B : Type 0} (serving : Serving R) (request answer : ℕ) (table : SiteTable) (N : B → Entry → B → Type 0) (start : Run State R) (book : B) (world : World State R) (book' : B) : Type 0 where
  pub entries : List Entry
  pub told : map Some entries ≡ trace (step (sites_with serving request answer table)) (entry_now serving request answer table) (length entries) start
  pub outs : map (λ e. e.outs) entries ≡ trace (step (sites_with serving request answer table)) (outs_now (sites_with serving request answer table)) (length entries) start
  pub world_so : world ≡ (after (sites_with serving request answer table) (length entries) start).world
  pub over : event_now (after (sites_with serving request answer table) (length entries) start) ≡ None
  pub noted : Reached N book (reverse entries) book'
