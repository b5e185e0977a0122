-- A TABLE OF CASES: small worlds of sites a, b and c, what is done in them, and what must hold after it.
use Rattle.std.specs.Prelude.{◌≡◌, ℕ, zero, suc, Bool, false, cond, List, [], ◌∷◌, ◌++◌, length, replicate, Some, None, Option, ◌==◌, nat_eq}
use Rattle.pages.specs.Sites.{Bytes, Act, Idle, Asks, Says, Keeps, Looks, Opens, Told, Silence, Begun, Answer, Barred, Heard, Kept, Request, Reply, Unreadable, Readable, Sites}
use Rattle.pages.specs.Browser.{Word, Window, World, nth, told_now}
use Rattle.pages.specs.Outs.{Out, out, Asked, Said, Opened, Let}
use Rattle.pages.specs.Runs.{Run, Rounds, trace, step, after, outs_now, request_now}
use Rattle.pages.specs.Views.{row}
use Rattle.pages.specs.Promise.{Others, SameForOthers, only}
use Rattle.pages.specs.Laws.{Every}

-- Three sites.
abbrev pub a : ℕ
a = 0

abbrev pub b : ℕ
b = 1

abbrev pub c : ℕ
c = 2

-- A string of one byte, and a path.
abbrev pub one : ℕ → Bytes
one n = n ∷ []

-- The path of the first page.
abbrev pub home : Bytes
home = 47 ∷ []

-- What a page does that has a list of acts, one for each turn, when it has had x turns.
unfoldable pub doing : List Act → ℕ → Act
doing [] x = Idle
doing (d ∷ ds) zero = d
doing (d ∷ ds) (suc x) = doing ds x

-- Pages of each site do these acts, one a turn, whatever they are told; each server answers by the request, and counts its requests.
abbrev pub sites_of : (ℕ → List Act) → (Request → Reply) → Sites ℕ ℕ
sites_of acts answer =
    record {
      scripts = record { sites = 3; act = λ s x t. doing (acts s) x; next = λ s x t. suc x; begin = λ s d. 0 };
      serve = λ q x. record { reply = answer q; state = suc x };
    }

-- A window of site s that has had no turn.
abbrev pub window_of : ℕ → Window ℕ
window_of s = record { site = s; state = 0; own = Silence; words = [] }

-- Window 0 is of a and window 1 of b, and there may be more of c; b's token is given, a's is 10, c has none; a kept 100, b kept 101. The windows in the list have their turns, in that order.
abbrev pub world : ℕ → Option Bytes → List ℕ → Run ℕ ℕ
world more guest turns =
    record {
      world = record {
        part = record {
          windows = window_of a ∷ window_of b ∷ replicate more (window_of c);
          tokens = λ s. cond (s == a) (Some (one 10)) (cond (s == b) guest None);
          kept = λ s. cond (s == a) (one 100) (cond (s == b) (one 101) []);
        };
        servers = λ s. 0;
      };
      agenda = record { opens = []; round = turns; lines = [] };
    }

-- Pages of a do these acts and pages of b those.
abbrev pub pages : List Act → List Act → ℕ → List Act
pages xs ys s = cond (s == a) xs (cond (s == b) ys [])

-- An answer 42 with code 200 and the token 21, for the named sites to see.
abbrev pub answers : (ℕ → Bool) → Request → Reply
answers lets q = Readable 200 (one 42) (Some (one 21)) lets

-- No other site.
abbrev pub nobody : ℕ → Bool
nobody s = false

-- An answer by the token that is brought along: whether a guest is logged in. Nobody else may see it.
abbrev pub greets : Request → Reply
greets q = by_token q.token
  where
    by_token : Option Bytes → Reply
    by_token None = Readable 403 [] None nobody
    by_token (Some k) = Readable 200 (one 42) None nobody

-- An answer that can't be read.
abbrev pub garbled : Request → Reply
garbled q = Unreadable

-- What must hold after the turns: what a window is told next; which words wait for it; a site's token; what it keeps; how often its server was asked; of which sites the windows are; what was let out, turn by turn; what servers were asked; that nothing happened; that a window is told the same where b's guest has another token.
pub data Fact : Type 0 where
  told : (window : ℕ) → Told → Fact
  waiting : (window : ℕ) → List Word → Fact
  token : (site : ℕ) → Option Bytes → Fact
  keeps : (site : ℕ) → Bytes → Fact
  served : (site count : ℕ) → Fact
  windows : List ℕ → Fact
  lets_out : List (List Out) → Fact
  requests : List (Option Request) → Fact
  nothing : Fact
  same_with : Option Bytes → (window : ℕ) → Fact

-- A case: what pages do, what servers answer, how many windows of c there are, b's token, whose turns they are, and what holds after them.
pub record Row : Type 0 where
  pub acts : ℕ → List Act
  pub answer : Request → Reply
  pub more : ℕ
  pub guest : Option Bytes
  pub turns : List ℕ
  pub facts : List Fact

-- What a window is told next.
abbrev pub told_to : Option (Window ℕ) → Told
told_to None = Silence
told_to (Some x) = told_now x

-- The words that wait for it.
abbrev pub words_of : Option (Window ℕ) → List Word
words_of None = []
words_of (Some x) = x.words

-- The world after the turns of a row, with these acts and this guest.
abbrev pub ends : Row → (ℕ → List Act) → Option Bytes → World ℕ ℕ
ends r acts guest = (after (sites_of acts r.answer) (length r.turns) (world r.more guest r.turns)).world

-- The world after the turns of a row.
abbrev pub end : Row → World ℕ ℕ
end r = ends r r.acts r.guest

-- A fact of a row holds.
abbrev pub Holds : Row → Fact → Type 0
Holds r (told i t) = told_to (nth i (end r).part.windows) ≡ t
Holds r (waiting i ms) = words_of (nth i (end r).part.windows) ≡ ms
Holds r (token s k) = (end r).part.tokens s ≡ k
Holds r (keeps s d) = (end r).part.kept s ≡ d
Holds r (served s n) = (end r).servers s ≡ n
Holds r (windows ss) = row (end r).part.windows ≡ ss
Holds r (lets_out os) = trace (step (sites_of r.acts r.answer)) (outs_now (sites_of r.acts r.answer)) (length r.turns) (world r.more r.guest r.turns) ≡ os
Holds r (requests qs) = trace (step (sites_of r.acts r.answer)) (request_now (sites_of r.acts r.answer)) (length r.turns) (world r.more r.guest r.turns) ≡ qs
Holds r nothing = end r ≡ ends r (pages [] []) r.guest
Holds r (same_with k i) = told_to (nth i (end r).part.windows) ≡ told_to (nth i (ends r r.acts k).part.windows)

-- The word n of site s.
abbrev pub word : ℕ → ℕ → Word
word s n = record { from = s; what = one n }

-- A row with windows of a and b only, and a guest whose token at b is 20.
abbrev pub case : List Act → List Act → (Request → Reply) → List ℕ → List Fact → Row
case xs ys f is fs = record { acts = pages xs ys; answer = f; more = 0; guest = Some (one 20); turns = is; facts = fs }

-- The rows.
abbrev pub cases : List Row
cases =
    -- A. A page of a asks a's server: it is told the answer, and nothing is let out.
    case (Asks a home (one 3) ∷ []) [] (answers nobody) (0 ∷ []) (told 0 (Answer a 200 (one 42)) ∷ lets_out ([] ∷ []) ∷ [])
    -- B. A page of a asks b's server, which allows nobody: it is told that b barred it; b's token is the new one.
    ∷ case (Asks b home (one 3) ∷ []) [] (answers nobody) (0 ∷ []) (told 0 (Barred b) ∷ token b (Some (one 21)) ∷ lets_out ((out a b (Asked home (one 3)) ∷ []) ∷ []) ∷ [])
    -- C. The same, allowing a: it is told the answer, and b has let it out.
    ∷ case (Asks b home (one 3) ∷ []) [] (answers (λ s. nat_eq s a)) (0 ∷ []) (told 0 (Answer b 200 (one 42)) ∷ lets_out ((out a b (Asked home (one 3)) ∷ out b a (Let 200 (one 42)) ∷ []) ∷ []) ∷ [])
    -- D. A page of a says 5 to window 1, of b, naming c: nothing happens.
    ∷ case (Says 1 c (one 5) ∷ []) [] (answers nobody) (0 ∷ []) (nothing ∷ told 1 Silence ∷ lets_out ([] ∷ []) ∷ [])
    -- E. A page of a says 5 to window 1, of b, naming b: b's page is told that a said 5.
    ∷ case (Says 1 b (one 5) ∷ []) [] (answers nobody) (0 ∷ []) (told 1 (Heard a (one 5)) ∷ lets_out ((out a b (Said 1 (one 5)) ∷ []) ∷ []) ∷ [])
    -- F. a keeps 7; a page of b looks: it is told what b kept.
    ∷ case (Keeps (one 7) ∷ []) (Looks ∷ []) (answers nobody) (0 ∷ 1 ∷ []) (keeps a (one 7) ∷ told 1 (Kept (one 101)) ∷ lets_out ([] ∷ [] ∷ []) ∷ [])
    -- G. b's server answers a's asking by whether a guest is logged in at b, and bars it: a's page is told the same in both.
    ∷ case (Asks b home (one 3) ∷ []) [] greets (0 ∷ []) (told 0 (Barred b) ∷ same_with None 0 ∷ [])
    -- An answer and a word both wait: the answer is told first,
    ∷ case (Asks a home [] ∷ []) (Says 0 a (one 5) ∷ []) (answers nobody) (0 ∷ 1 ∷ []) (told 0 (Answer a 200 (one 42)) ∷ waiting 0 (word b 5 ∷ []) ∷ [])
    -- and the word in the turn after it.
    ∷ case (Asks a home [] ∷ []) (Says 0 a (one 5) ∷ []) (answers nobody) (0 ∷ 1 ∷ 0 ∷ []) (told 0 (Heard b (one 5)) ∷ [])
    -- A page that is opened is told its path in its first turn, and not again; its server's token is taken, and its server was asked in nobody's name, with the old token.
    ∷ case (Opens b home ∷ []) [] (answers nobody) (0 ∷ [])
    (told 2 (Begun home) ∷ windows (a ∷ b ∷ b ∷ []) ∷ waiting 2 [] ∷ token b (Some (one 21)) ∷ served b 1 ∷ lets_out ((out a b (Opened home) ∷ []) ∷ [])
    ∷ requests (Some (record { site = b; from = None; token = Some (one 20); path = home; body = [] }) ∷ []) ∷ [])
    ∷ case (Opens b home ∷ []) [] (answers nobody) (0 ∷ 2 ∷ []) (told 2 Silence ∷ [])
    -- A 16th window is opened and a 17th is not: no server is asked for it, but it is let out.
    ∷ record {
      acts = pages (Opens b home ∷ Opens b home ∷ []) [];
      answer = answers nobody;
      more = 13;
      guest = None;
      turns = 0 ∷ 0 ∷ [];
      facts = windows ((a ∷ b ∷ replicate 13 c) ++ (b ∷ [])) ∷ served b 1 ∷ lets_out ((out a b (Opened home) ∷ []) ∷ (out a b (Opened home) ∷ []) ∷ []) ∷ [];
    }
    -- An eighth word is kept and a ninth dropped, and who said it is told nothing.
    ∷ case (Says 1 b (one 1) ∷ Says 1 b (one 2) ∷ Says 1 b (one 3) ∷ Says 1 b (one 4) ∷ Says 1 b (one 5) ∷ Says 1 b (one 6) ∷ Says 1 b (one 7) ∷ Says 1 b (one 8) ∷ Says 1 b (one 9) ∷ []) []
    (answers nobody) (replicate 9 0)
    (waiting 1 (word a 1 ∷ word a 2 ∷ word a 3 ∷ word a 4 ∷ word a 5 ∷ word a 6 ∷ word a 7 ∷ word a 8 ∷ []) ∷ told 0 Silence ∷ [])
    -- Two words are told in order, and one is taken in each turn, also where the page does nothing.
    ∷ case (Says 1 b (one 1) ∷ Says 1 b (one 2) ∷ []) [] (answers nobody) (0 ∷ 0 ∷ []) (told 1 (Heard a (one 1)) ∷ [])
    ∷ case (Says 1 b (one 1) ∷ Says 1 b (one 2) ∷ []) [] (answers nobody) (0 ∷ 0 ∷ 1 ∷ []) (told 1 (Heard a (one 2)) ∷ waiting 1 (word a 2 ∷ []) ∷ [])
    -- A look, a keep and a word to one's own site let nothing out; a keep tells the keeper nothing.
    ∷ case (Looks ∷ Keeps (one 7) ∷ Says 0 a (one 5) ∷ []) [] (answers nobody) (0 ∷ 0 ∷ 0 ∷ []) (lets_out ([] ∷ [] ∷ [] ∷ []) ∷ keeps a (one 7) ∷ told 0 (Heard a (one 5)) ∷ [])
    ∷ case (Keeps (one 7) ∷ []) [] (answers nobody) (0 ∷ []) (told 0 Silence ∷ keeps b (one 101) ∷ [])
    -- An answer that can't be read is barred from its own site's page too, and its token isn't taken.
    ∷ case (Asks a home [] ∷ []) [] garbled (0 ∷ []) (told 0 (Barred a) ∷ token a (Some (one 10)) ∷ served a 1 ∷ [])
    -- A server without a token is asked without one, which is not the empty one; an answer that sets none leaves the old one.
    ∷ case (Asks c home (one 3) ∷ []) [] greets (0 ∷ []) (requests (Some (record { site = c; from = Some a; token = None; path = home; body = one 3 }) ∷ []) ∷ token c None ∷ [])
    ∷ case (Asks b home [] ∷ []) [] greets (0 ∷ []) (token b (Some (one 20)) ∷ requests (Some (record { site = b; from = Some a; token = Some (one 20); path = home; body = [] }) ∷ []) ∷ [])
    -- An act that names a site without a number is nothing; so is a turn of a window that isn't there.
    ∷ case (Asks 3 home [] ∷ Says 1 7 (one 5) ∷ Opens 9 home ∷ []) [] (answers nobody) (0 ∷ 0 ∷ 0 ∷ 5 ∷ []) (nothing ∷ lets_out ([] ∷ [] ∷ [] ∷ [] ∷ []) ∷ requests (None ∷ None ∷ None ∷ None ∷ []) ∷ [])
    ∷ []

-- THE TABLE HOLDS: each fact of each row.
abbrev pub TableHolds : Type 0
TableHolds = Every (λ r. Every (Holds r) r.facts) cases

-- b's server knows the guest.
abbrev pub knows : Request → Reply
knows q = Readable 200 (one 42) (Some (one 21)) nobody

-- It does not know the guest.
abbrev pub refuses : Request → Reply
refuses q = Readable 403 [] None nobody

-- b's server answers so, and the others as before.
abbrev pub at_b : (Request → Reply) → Request → Reply
at_b f q = cond (q.site == b) (f q) (answers nobody q)

-- Both windows wait, and three rounds are to be had.
abbrev pub evening : Run ℕ ℕ
evening = record { world = (world 0 None []).world; agenda = record { opens = []; round = []; lines = Rounds 3 ∷ [] } }

-- a's page asks b twice and looks; b's page keeps something and looks.
abbrev pub asker : ℕ → List Act
asker = pages (Asks b home (one 3) ∷ Asks b home (one 4) ∷ Looks ∷ []) (Keeps (one 9) ∷ Looks ∷ [])

-- CASE G AS AN INSTANCE OF THE PROMISE: two browsers whose guests differ at b, by b's server itself, which bars everybody else in both. In three rounds of all windows, in which a's page asks it, b lets nothing out in either, and everything of all others is the same.
abbrev pub GuestUnseen : Type 0
GuestUnseen = Others (only b) (sites_of asker (at_b knows)) (sites_of asker (at_b refuses)) × SameForOthers (only b) (sites_of asker (at_b knows)) (sites_of asker (at_b refuses)) evening evening 6
