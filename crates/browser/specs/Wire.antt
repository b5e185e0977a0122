-- The sites of a table, with any servers, on bytes: what a request is on the wire, and what is read of an answer.
use Rattle.std.specs.Prelude.{ℕ, cond, List, [], length, Some, None, Option}
use Rattle.std.specs.Option.{option_map}
use Rattle.octets.specs.Answers.{Answer, Read, Fault}
use Rattle.answers.specs.declared.Kind.{Kind}
use Rattle.answers.specs.declared.Kind.TheVariants.{Asked, Page}
use Rattle.answers.specs.Answers.{Content, read_answer}
use Rattle.answers.specs.Seen.{allows}
use Rattle.requests.specs.Requests.{Asking}
use Rattle.requests.specs.Written.{request_text, can_write}
use Rattle.machine.specs.Script.{State}
use Rattle.pages.specs.Sites.{Bytes, Request, Reply, Unreadable, Readable, Sites}
use Rattle.pages.specs.Browser.{nth}
use Rattle.windows.specs.Scripts.{by_machine}

-- Host and port of each site, by number.
abbrev pub SiteTable : Type 0
SiteTable = List (Bytes × ℕ)

-- A number without a site has no host, and is no site.
abbrev pub site_or : Option (Bytes × ℕ) → Bytes × ℕ
site_or None = ([], 0)
site_or (Some site) = site

-- Host and port of site s.
abbrev pub site_at : SiteTable → ℕ → Bytes × ℕ
site_at table s = site_or (nth s table)

-- A request with hosts and ports in place of numbers.
abbrev pub asking_of : SiteTable → Request → Asking
asking_of table q = record { site = site_at table q.site; path = q.path; origin = option_map (site_at table) q.from; token = q.token; body = q.body }

-- The bytes of a request, if it can be written; else none.
abbrev pub request_bytes : SiteTable → Request → Bytes
request_bytes table q = cond (can_write (asking_of table q)) (request_text (asking_of table q)) []

-- An answer to a page's asking, or a page that is opened.
abbrev pub kind_for : Option ℕ → Kind
kind_for (Some s) = Asked
kind_for None = Page

-- What the promise's browser gets of an answer as it was read. A site that it allows is compared with the asking one.
abbrev pub reply_from : SiteTable → Answer Content → Reply
reply_from table (Fault n) = Unreadable
reply_from table (Read a) = Readable a.code a.body a.token (λ s. allows a.allowed (site_at table s))

-- The same of the answer's bytes.
abbrev pub reply_of : SiteTable → Kind → Bytes → Reply
reply_of table kind bs = reply_from table (read_answer kind bs)

-- THE SITES of a table, with any servers: what a server does with a request, in a state, is the bytes of its answer and its next state.
abbrev pub sites_of : {R : Type 0} → SiteTable → (Request → R → Bytes × R) → Sites State R
sites_of table serving = record {
  scripts = by_machine (length table);
  serve = λ q r. record { reply = reply_of table (kind_for q.from) (serving q r).0; state = (serving q r).1 };
}

-- Servers that see the bytes of a request, and nothing else of it.
abbrev pub on_bytes : {R : Type 0} → SiteTable → (ℕ → Bytes → R → Bytes × R) → Request → R → Bytes × R
on_bytes table serving q r = serving q.site (request_bytes table q) r
