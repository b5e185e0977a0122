-- One event of a browser, on bytes: what is asked, what comes back, and what the book holds of it.
use Rattle.std.specs.Prelude.{◌≡◌, ℕ, List, [], length, Some, None, Option}
use Rattle.std.specs.Option.{option_map}
use Rattle.machine.specs.Script.{State}
use Rattle.pages.specs.Sites.{Bytes, Request}
use Rattle.pages.specs.Browser.{Part, nth, needs, Event, Opening, TurnOf}
use Rattle.pages.specs.Outs.{Out}
use Rattle.pages.specs.Code.{turned, outs_with}
use Rattle.windows.specs.Scripts.{by_machine}
use Rattle.browser.specs.Ends.{faults_of}
use Rattle.browser.specs.Halves.{run_fault, page_outs_of}
use Rattle.browser.specs.Whole.{reply_in}
use Rattle.browser.specs.Wire.{SiteTable, request_bytes}
use Rattle.servers.specs.Answering.{fitting}
use Rattle.book.specs.Records.{Entry}

-- The site of an event's window, if there is such a window.
abbrev pub site_in : Event → Part State → Option ℕ
site_in (Opening t h) b = Some t
site_in (TurnOf i) b = option_map (λ x. x.site) (nth i b.windows)

-- The number of the fault in the script's run, and 0 for none.
abbrev pub begin_fault : SiteTable → Event → Part State → ℕ
begin_fault table (Opening t h) b = 0
begin_fault table (TurnOf i) b = run_fault (length table) (nth i b.windows)

-- What the page of an event lets out.
abbrev pub page_outs_in : SiteTable → Event → Part State → List Out
page_outs_in table (Opening t h) b = []
page_outs_in table (TurnOf i) b = page_outs_of (by_machine (length table)) (nth i b.windows) b

-- The window that the reply is for, where a page of it asks.
abbrev pub window_in : Event → ℕ
window_in (Opening t h) = 0
window_in (TurnOf i) = i

-- What is asked in an event, if something is.
abbrev pub asked : SiteTable → Event → Part State → Option Request
asked table e b = needs (by_machine (length table)) e b

-- The bytes of a request, where the room for it suffices.
abbrev pub sent : ℕ → SiteTable → Option Request → Bytes
sent room table None = []
sent room table (Some q) = fitting room (request_bytes table q)

-- What the book holds of an event, where these bytes were answered.
abbrev pub entry_for : SiteTable → Event → Bytes → Part State → Entry
entry_for table e a b = record {
  event = e;
  site = site_in e b;
  fault = faults_of (begin_fault table e b) (asked table e b) a;
  outs = outs_with (by_machine (length table)) e (reply_in table (asked table e b) a) b;
}

-- The browser's part after an event, where these bytes were answered.
abbrev pub part_after : SiteTable → Event → Bytes → Part State → Part State
part_after table e a b = turned (by_machine (length table)) e (reply_in table (asked table e b) a) b

-- What a carrier may do with a request, if there is one.
abbrev pub Exchanged : {C : Type 0} → (C → ℕ → Bytes → Bytes → C → Type 0) → ℕ → SiteTable → Option Request → Bytes → C → C → Type 0
Exchanged G room table None a c d = (a ≡ []) × (d ≡ c)
Exchanged G room table (Some q) a c d = G c q.site (sent room table (Some q)) a d

-- AN EVENT: some bytes are answered that the carrier may give, and the browser's part afterwards and what the book holds are those of the definitions.
pub record Occurs {C : Type 0} (G : C → ℕ → Bytes → Bytes → C → Type 0) (room : ℕ) (table : SiteTable) (e : Event) (b : Part State) (c : C) (entry : Entry) (b' : Part State) (c' : C) : Type 0 where
  pub answer : Bytes
  pub exchange : Exchanged G room table (asked table e b) answer c c'
  pub part : b' ≡ part_after table e answer b
  pub noted : entry ≡ entry_for table e answer b
