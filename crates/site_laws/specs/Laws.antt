-- What holds of the sites of a table, on bytes, with any servers at all.
use Rattle.std.specs.Prelude.{◌≡◌, ℕ, ◌≤◌, true, false, List, ◌++◌, length, Some, ◌≢◌}
use Rattle.octets.specs.Answers.{Read}
use Rattle.answers.specs.declared.Kind.TheVariants.{Asked}
use Rattle.requests.specs.Requests.{Asking, read_request}
use Rattle.requests.specs.Written.{request_text, can_write}
use Rattle.machine.specs.Script.{State}
use Rattle.settings.specs.Settings.{Config, Good, read_settings}
use Rattle.pages.specs.Sites.{Bytes, Request}
use Rattle.pages.specs.Browser.{Window, Word, Part, Event, nth, may_see, needs}
use Rattle.pages.specs.Outs.{Group}
use Rattle.pages.specs.Runs.{step, after, trace, begin}
use Rattle.pages.specs.Views.{concat}
use Rattle.pages.specs.Promise.{let_outs, SameForOthers}
use Rattle.pages.specs.Laws.{delivered_now}
use Rattle.pages.specs.Code.{turned, outs_with, IsCode}
use Rattle.windows.specs.Scripts.{by_machine}
use Rattle.browser.specs.Wire.{SiteTable, asking_of, request_bytes, reply_of, sites_of}
use Rattle.plans.specs.Plans.{planned}
use Rattle.runs.specs.Events.{asked, entry_for, part_after}

-- What servers do, by the request and a state: the bytes of the answer, and the next state.
abbrev pub Servers : Type 0 → Type 0
Servers R = Request → R → Bytes × R

-- THE BROWSER IS CODE as it must be: what it asks in an event, what it does with the reply and what it says is let out are the promise's, for every table of sites and any servers.
abbrev pub BrowserIsCode : Type 0 → Type 0
BrowserIsCode R = (table : SiteTable) (serving : Servers R) → IsCode (sites_of table serving) (Part State) (λ b. b) (λ b. b) (needs (by_machine (length table))) (turned (by_machine (length table))) (outs_with (by_machine (length table)))

-- THE PROMISE, from the text of the settings on: two runs over servers that do the same, and begin in the same states, but for a group. As long as the group lets out the same in both, everything of all others is the same.
abbrev pub PromiseOnBytes : Type 0 → Type 0
PromiseOnBytes R =
    (text : Bytes) (c : Config) → read_settings text ≡ Good c → (h : Group) (one two : Servers R) (r r' : ℕ → R) →
    ((q : Request) (x : R) → h q.site ≡ false → one q x ≡ two q x) → ((s : ℕ) → h s ≡ false → r s ≡ r' s) → (n : ℕ) →
    let_outs (sites_of c.sites one) h n (begin (planned c) r) ≡ let_outs (sites_of c.sites two) h n (begin (planned c) r') →
    SameForOthers h (sites_of c.sites one) (sites_of c.sites two) (begin (planned c) r) (begin (planned c) r') n

-- Two events are the same to all but the asked server's token.
pub record SameBut (t : ℕ) (a b : Part State) : Type 0 where
  pub windows : a.windows ≡ b.windows
  pub kept : a.kept ≡ b.kept
  pub tokens : (s : ℕ) → (s ≢ t) → a.tokens s ≡ b.tokens s

-- WHAT MAY NOT BE SEEN IS ALL ALIKE: where a page asks and may see neither of two answers, barred, failed or unreadable, it is told the same, nothing else differs but the asked server's token, and the same is let out.
abbrev pub BarredAlike : Type 0
BarredAlike =
    (table : SiteTable) (e : Event) (b : Part State) (q : Request) (s : ℕ) (a a' : Bytes) → asked table e b ≡ Some q → q.from ≡ Some s →
    may_see s q.site (reply_of table Asked a) ≡ false → may_see s q.site (reply_of table Asked a') ≡ false →
    SameBut q.site (part_after table e a b) (part_after table e a' b) × ((entry_for table e a b).outs ≡ (entry_for table e a' b).outs)

-- EVERY WORD IS TRUE: the words that wait for a window are the last of those that were said to it, in order, each once, and each under the site of the window that said it.
abbrev pub WordsOnBytes : Type 0 → Type 0
WordsOnBytes R =
    (text : Bytes) (c : Config) → read_settings text ≡ Good c → (serving : Servers R) (r : ℕ → R) (n j : ℕ) (y : Window State) → nth j (after (sites_of c.sites serving) n (begin (planned c) r)).world.part.windows ≡ Some y →
    (gone : List Word) × (gone ++ y.words ≡ concat (trace (step (sites_of c.sites serving)) (delivered_now (sites_of c.sites serving) j) n (begin (planned c) r)))

-- TOLD TRULY WHO ASKS: what a server reads of a request is what was asked, with host and port of the asking page's site as origin, and with none where a page is opened.
abbrev pub ToldWhoAsks : Type 0
ToldWhoAsks = (table : SiteTable) (q : Request) → can_write (asking_of table q) ≡ true → read_request (request_bytes table q) ≡ Read (asking_of table q)

-- A request that can be written fits into 4,096 bytes.
abbrev pub RequestsFit : Type 0
RequestsFit = (q : Asking) → can_write q ≡ true → length (request_text q) ≤ 4096
