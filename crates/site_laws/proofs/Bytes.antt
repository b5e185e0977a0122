-- The promise's theorems, at the sites of a table.
use Rattle.std.proofs.Common.{◌≡◌, false, [], refl, ap, ◌∙◌}
use Rattle.std.proofs.lemmas.Bool.{cond-true}
use Rattle.requests.specs.Requests.{read_request}
use Rattle.requests.specs.Written.{request_text, can_write}
use Rattle.requests.proofs.Back.{request_back}
use Rattle.machine.specs.Script.{State}
use Rattle.pages.specs.Sites.{Request, Served}
use Rattle.pages.specs.Outs.{Group}
use Rattle.pages.specs.Promise.{Others}
use Rattle.pages.proofs.Term.{code_stands}
use Rattle.pages.proofs.TrueWords.{words_truly}
use Rattle.pages.proofs.Whole.{from_settings}
use Rattle.browser.specs.Wire.{SiteTable, asking_of, kind_for, reply_of, sites_of}
use Rattle.plans.specs.Plans.{planned}
use Rattle.site_laws.specs.Laws.{Servers, BrowserIsCode, PromiseOnBytes, WordsOnBytes, ToldWhoAsks}

pub browser_is_code : (R : Type 0) → BrowserIsCode R
browser_is_code R table serving = code_stands State R (sites_of table serving)

-- servers that do the same but for a group are the same sites but for it
same_sites : {R : Type 0} (table : SiteTable) (h : Group) (one two : Servers R) → ((q : Request) (x : R) → h q.site ≡ false → one q x ≡ two q x) → Others h (sites_of table one) (sites_of table two)
same_sites {R} table h one two e = record {
  sites = refl;
  act = λ s x t n. refl;
  next = λ s x t n. refl;
  begin = λ s d n. refl;
  serve = λ q x n. ap {B = Served R} (λ z. record { reply = reply_of table (kind_for q.from) z.0; state = z.1 }) (e q x n);
}

pub promise_on_bytes : (R : Type 0) → PromiseOnBytes R
promise_on_bytes R text c e h one two r r' same states n lets = from_settings State R h (sites_of c.sites one) (sites_of c.sites two) (planned c) r r' (same_sites c.sites h one two same) states n lets

pub words_on_bytes : (R : Type 0) → WordsOnBytes R
words_on_bytes R text c e serving r n j y at = words_truly State R (sites_of c.sites serving) (planned c) r n j y at

pub told_who_asks : ToldWhoAsks
told_who_asks table q ok = ap read_request (cond-true (can_write (asking_of table q)) (request_text (asking_of table q)) [] ok) ∙ request_back (asking_of table q) ok
