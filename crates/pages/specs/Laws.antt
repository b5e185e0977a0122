-- What else is promised: what is let out, and nothing more is; what each event does to each site and to each window; what holds at every moment.
use Rattle.std.specs.Prelude.{◌≡◌, ℕ, suc, ◌<◌, ◌≤◌, Bool, true, false, cond, ◌&&◌, ◌⊎◌, List, [], ◌∷◌, ◌++◌, map, length, Some, None, Option, ◌==◌, ◌≢◌, nat_eq, nat_lt}
use Rattle.pages.specs.Sites.{Bytes, Act, Idle, Asks, Says, Keeps, Looks, Opens, Told, Silence, Begun, Answer, Barred, Heard, Kept, Request, Readable, Sites}
use Rattle.pages.specs.Browser.{Word, Window, World, most_words, at, nth, change, told_now, words_left, is_silence, act_of, stepped, owns, hears, answered, token_after, page_in, needs, happens, Event, Opening, TurnOf}
use Rattle.pages.specs.Outs.{What, Asked, Said, Opened, Let, Out, out, outs, keep_only}
use Rattle.pages.specs.Runs.{Run, Settings, Line, Rounds, Due, count_from, line_due, due_now, trace, step, after, begin, event_now, request_now}
use Rattle.pages.specs.Views.{View, view_of, Effect, Serves, Hears, Begins, takes_all, effects, effects_now, concat}

-- All of a list have it.
unfoldable pub Every : {A : Type 0} → (A → Type 0) → List A → Type 0
Every P [] = Unit {0}
Every P (x ∷ xs) = P x × Every P xs

-- The request of a page of site s that asks site t's server, with that server's token.
abbrev pub asking : {S R : Type 0} → World S R → ℕ → ℕ → Bytes → Bytes → Request
asking w s t h d = record { site = t; from = Some s; token = w.part.tokens t; path = h; body = d }

-- The request for a page that is opened.
abbrev pub fetching : {S R : Type 0} → World S R → ℕ → Bytes → Request
fetching w t h = record { site = t; from = None; token = w.part.tokens t; path = h; body = [] }

-- What may be let out in a turn of window x: what it asks another site's server; what it says to a window that is there, and of the named, other site; what it opens; and what another site's server replied to its asking, if that can be read and lets x's site see it. Nothing else.
pub data MayLetOut {S R : Type 0} (p : Sites S R) (w : World S R) (x : Window S) : Out → Type 0 where
  asked : (t : ℕ) (h d : Bytes) → act_of p.scripts x ≡ Asks t h d → (t ≢ x.site) → MayLetOut p w x (out x.site t (Asked h d))
  said : (j t : ℕ) (d : Bytes) (y : Window S) → act_of p.scripts x ≡ Says j t d → (t ≢ x.site) → nth j w.part.windows ≡ Some y → y.site ≡ t → MayLetOut p w x (out x.site t (Said j d))
  opened : (t : ℕ) (h : Bytes) → act_of p.scripts x ≡ Opens t h → MayLetOut p w x (out x.site t (Opened h))
  let_see : (t : ℕ) (h d : Bytes) (c : ℕ) (b : Bytes) (k : Option Bytes) (lets : ℕ → Bool) → act_of p.scripts x ≡ Asks t h d → (t ≢ x.site) → (p.serve (asking w x.site t h d) (w.servers t)).reply ≡ Readable c b k lets → lets x.site ≡ true → MayLetOut p w x (out t x.site (Let c b))

-- What an asking page is told, by what the asked site let out.
abbrev pub told_by_out : ℕ → What → Told
told_by_out t (Asked h d) = Barred t
told_by_out t (Said j d) = Barred t
told_by_out t (Opened h) = Barred t
told_by_out t (Let c b) = Answer t c b

-- The same by the list of what the asked site let out.
abbrev pub told_by : ℕ → List Out → Told
told_by t [] = Barred t
told_by t (o ∷ os) = told_by_out t o.what

-- What another's turn may do to site v: nothing; its server is asked in the other's name; a window of v hears a word in the other's name; a window of v is opened.
pub data Foreign {S R : Type 0} (p : Sites S R) (v : ℕ) (w : World S R) (x : Window S) : List Effect → Type 0 where
  nothing : Foreign p v w x []
  asks : (h d : Bytes) → act_of p.scripts x ≡ Asks v h d → Foreign p v w x (Serves x.site h d ∷ [])
  says : (j : ℕ) (d : Bytes) (y : Window S) → act_of p.scripts x ≡ Says j v d → nth j w.part.windows ≡ Some y → y.site ≡ v → Foreign p v w x (Hears j x.site d ∷ [])
  opens : (h : Bytes) → act_of p.scripts x ≡ Opens v h → length w.part.windows < 16 → Foreign p v w x (Begins (length w.part.windows) h ∷ [])

module _ {S R : Type 0} where
  -- Window y, with number j, once the script of window i has run.
  abbrev pub ran : Sites S R → ℕ → ℕ → Window S → Window S
  ran p i j y = cond (j == i) (stepped p.scripts y) y

  -- And once it has done what it does: x, of site s, is the window whose turn it is.
  abbrev pub becomes : Sites S R → World S R → ℕ → ℕ → Act → ℕ → Window S → Window S
  becomes p w i s Idle j y = y
  becomes p w i s (Asks t h d) j y = cond (j == i) (owns (answered s t (p.serve (asking w s t h d) (w.servers t)).reply) y) y
  becomes p w i s (Says l t d) j y = cond (j == l) (hears t (record { from = s; what = d }) y) y
  becomes p w i s (Keeps d) j y = y
  becomes p w i s Looks j y = cond (j == i) (owns (Kept (w.part.kept s)) y) y
  becomes p w i s (Opens t h) j y = y

  -- The servers' states after a request.
  abbrev pub servers_after : Sites S R → Request → World S R → ℕ → R
  servers_after p a w = at a.site (p.serve a (w.servers a.site)).state w.servers

  -- The tokens after a request.
  abbrev pub tokens_after : Sites S R → Request → World S R → ℕ → Option Bytes
  tokens_after p a w = at a.site (token_after (p.serve a (w.servers a.site)).reply (w.part.tokens a.site)) w.part.tokens

  -- Window i with its script run.
  abbrev pub running : Sites S R → ℕ → World S R → List (Window S)
  running p i w = change i (stepped p.scripts) w.part.windows

  -- Window x after its turn: its script has run on what it was told, which is taken away; this comes of its own doing, and these words wait.
  abbrev pub after_turn : Sites S R → Window S → Told → List Word → Window S
  after_turn p x m ms = record { site = x.site; state = p.scripts.next x.site x.state (told_now x); own = m; words = ms }

-- Will a window that is there, and of site t, take a word more?
abbrev pub accepts : {S : Type 0} → ℕ → Option (Window S) → Bool
accepts t None = false
accepts t (Some y) = y.site == t && nat_lt (length y.words) most_words

-- The word that an act of a window of site s puts before window j, which is the one given.
abbrev pub delivered_by : {S : Type 0} → ℕ → ℕ → Act → Option (Window S) → List Word
delivered_by j s Idle f = []
delivered_by j s (Asks t h d) f = []
delivered_by j s (Says l t d) f = cond (j == l && accepts t f) (record { from = s; what = d } ∷ []) []
delivered_by j s (Keeps d) f = []
delivered_by j s Looks f = []
delivered_by j s (Opens t h) f = []

module _ {S R : Type 0} where
  -- The word that a turn of window i puts before window j.
  abbrev pub delivered_of : Sites S R → ℕ → ℕ → Option (Window S) → World S R → List Word
  delivered_of p j i None w = []
  delivered_of p j i (Some x) w = delivered_by j x.site (act_of p.scripts x) (nth j (running p i w))

  -- The word that an event puts before window j, if there is one.
  abbrev pub delivered_on : Sites S R → ℕ → World S R → Option Event → List Word
  delivered_on p j w None = []
  delivered_on p j w (Some (Opening t h)) = []
  delivered_on p j w (Some (TurnOf i)) = delivered_of p j i (nth i w.part.windows) w

  -- The word that is said to window j at this moment, under the site of the window whose turn it is, if window j takes it.
  abbrev pub delivered_now : Sites S R → ℕ → Run S R → List Word
  delivered_now p j x = delivered_on p j x.world (event_now x)

-- What an act keeps.
abbrev pub kept_act : Act → Option Bytes
kept_act Idle = None
kept_act (Asks t h d) = None
kept_act (Says j t d) = None
kept_act (Keeps d) = Some d
kept_act Looks = None
kept_act (Opens t h) = None

module _ {S R : Type 0} where
  -- What a window of site v keeps in its turn.
  abbrev pub kept_of : Sites S R → ℕ → Option (Window S) → Option Bytes
  kept_of p v None = None
  kept_of p v (Some x) = cond (x.site == v) (kept_act (act_of p.scripts x)) None

  -- What an event has a window of site v keep.
  abbrev pub kept_on : Sites S R → ℕ → World S R → Option Event → Option Bytes
  kept_on p v w None = None
  kept_on p v w (Some (Opening t h)) = None
  kept_on p v w (Some (TurnOf i)) = kept_of p v (nth i w.part.windows)

  -- What a window of site v keeps at this moment, if it keeps something.
  abbrev pub kept_now : Sites S R → ℕ → Run S R → Option Bytes
  kept_now p v x = kept_on p v x.world (event_now x)

-- The last one that is there; at first, this one.
unfoldable pub latest : {A : Type 0} → List (Option A) → A → A
latest [] x = x
latest (None ∷ os) x = latest os x
latest (Some y ∷ os) x = latest os y

-- A request, if there is one, is to a site with a number below n.
abbrev pub NamedRequest : ℕ → Option Request → Type 0
NamedRequest n None = Unit {0}
NamedRequest n (Some a) = a.site < n

-- WHAT IS LET OUT in a turn of a window is only what may be.
abbrev pub LetOutOnly : Type 0 → Type 0 → Type 0
LetOutOnly S R = (p : Sites S R) (w : World S R) (i : ℕ) (x : Window S) → nth i w.part.windows ≡ Some x → Every (MayLetOut p w x) (outs p (TurnOf i) w)

-- At a missing window's turn nothing is let out and nothing happens; at an opening by the settings nothing is let out.
abbrev pub ElseNothing : Type 0 → Type 0 → Type 0
ElseNothing S R = (p : Sites S R) (w : World S R) → ((i : ℕ) → nth i w.part.windows ≡ None → (outs p (TurnOf i) w ≡ []) × (happens p (TurnOf i) w ≡ w)) × ((t : ℕ) (h : Bytes) → outs p (Opening t h) w ≡ [])

-- LET OUT AND TOLD ARE ONE. A page that asks another site's server is told what that site let out in this turn; if it let out nothing, that there was an answer that it may not see.
abbrev pub ToldIsLetOut : Type 0 → Type 0 → Type 0
ToldIsLetOut S R =
    (p : Sites S R) (w : World S R) (i : ℕ) (x : Window S) (t : ℕ) (h d : Bytes) → nth i w.part.windows ≡ Some x → act_of p.scripts x ≡ Asks t h d → (t ≢ x.site) →
    nth i (happens p (TurnOf i) w).part.windows ≡ Some (owns (told_by t (keep_only (λ (o : Out). nat_eq o.from t) (outs p (TurnOf i) w))) (stepped p.scripts x))

-- THE VIEW LAW. What is of a site after an event is a function of what was of it before and of what the event did to it.
abbrev pub ViewLaw : Type 0 → Type 0 → Type 0
ViewLaw S R = (p : Sites S R) (v : ℕ) (e : Event) (w : World S R) → ◌≡◌ {A = View S R} (view_of v (happens p e w)) (takes_all p v (effects p v e w) (view_of v w))

-- So it is after any number of events.
abbrev pub HistoryLaw : Type 0 → Type 0 → Type 0
HistoryLaw S R = (p : Sites S R) (v n : ℕ) (x : Run S R) → view_of v (after p n x).world ≡ takes_all p v (concat (trace (step p) (effects_now p v) n x)) (view_of v x.world)

-- NOT TOUCHED BUT BY THE THREE OPEN WAYS, and told truly who asked or spoke.
abbrev pub TouchedOnly : Type 0 → Type 0 → Type 0
TouchedOnly S R = (p : Sites S R) (v : ℕ) (w : World S R) (i : ℕ) (x : Window S) → nth i w.part.windows ≡ Some x → (x.site ≢ v) → Foreign p v w x (effects p v (TurnOf i) w)

-- EACH WINDOW. What a turn of window x, with number i, makes of the window with number j: itself, where j is i, or another.
abbrev pub EachWindow : Type 0 → Type 0 → Type 0
EachWindow S R =
    (p : Sites S R) (w : World S R) (i j : ℕ) (x y : Window S) → nth i w.part.windows ≡ Some x → nth j w.part.windows ≡ Some y →
    nth j (happens p (TurnOf i) w).part.windows ≡ Some (becomes p w i x.site (act_of p.scripts x) j (ran p i j y))

-- TOLD NEXT, AND BEFORE WORDS. What comes of a window's own doing is told before all words, which wait on; else the oldest word is told and is taken away.
abbrev pub ToldNext : Type 0 → Type 0 → Type 0
ToldNext S R =
    (x : Window S) →
    (is_silence x.own ≡ false → (told_now x ≡ x.own) × (words_left x ≡ x.words)) ×
    ((m : Word) (ms : List Word) → x.own ≡ Silence → x.words ≡ m ∷ ms → (told_now x ≡ Heard m.from m.what) × (words_left x ≡ ms))

-- SEES ITS OWN. A page that asks is told code and body of a reply that can be read, if it is of its own site's server or lets its site see it.
abbrev pub SeesOwn : Type 0 → Type 0 → Type 0
SeesOwn S R =
    (p : Sites S R) (w : World S R) (i : ℕ) (x : Window S) (t : ℕ) (h d : Bytes) (c : ℕ) (b : Bytes) (k : Option Bytes) (lets : ℕ → Bool) →
    nth i w.part.windows ≡ Some x → act_of p.scripts x ≡ Asks t h d → (p.serve (asking w x.site t h d) (w.servers t)).reply ≡ Readable c b k lets → (x.site ≡ t) ⊎ (lets x.site ≡ true) →
    nth i (happens p (TurnOf i) w).part.windows ≡ Some (after_turn p x (Answer t c b) (words_left x))

-- A WORD TO ONESELF waits behind those that wait already, once the oldest is taken.
abbrev pub WordToOneself : Type 0 → Type 0 → Type 0
WordToOneself S R =
    (p : Sites S R) (w : World S R) (i : ℕ) (x : Window S) (d : Bytes) → nth i w.part.windows ≡ Some x → act_of p.scripts x ≡ Says i x.site d → length (words_left x) < 8 →
    nth i (happens p (TurnOf i) w).part.windows ≡ Some (after_turn p x Silence (words_left x ++ (record { from = x.site; what = d } ∷ [])))

-- A NINTH WORD changes nothing of the window that it was for.
abbrev pub NinthWord : Type 0 → Type 0 → Type 0
NinthWord S R =
    (p : Sites S R) (w : World S R) (i j : ℕ) (x y : Window S) (t : ℕ) (d : Bytes) → nth i w.part.windows ≡ Some x → nth j w.part.windows ≡ Some y → (j ≢ i) → act_of p.scripts x ≡ Says j t d → 8 ≤ length y.words →
    nth j (happens p (TurnOf i) w).part.windows ≡ Some y

-- OPENING. With fewer than 16 windows a window more is there, the last, of the named site, told that it has begun, with the page and the token that the server gave; with 16 the script runs and nothing else is done, and no server is asked.
abbrev pub OpensWindow : Type 0 → Type 0 → Type 0
OpensWindow S R =
    (p : Sites S R) (w : World S R) (i : ℕ) (x : Window S) (t : ℕ) (h : Bytes) → nth i w.part.windows ≡ Some x → act_of p.scripts x ≡ Opens t h →
    (length w.part.windows < 16 →
    happens p (TurnOf i) w ≡
    record {
      part = record {
        windows = running p i w ++ (record { site = t; state = p.scripts.begin t (page_in (p.serve (fetching w t h) (w.servers t)).reply); own = Begun h; words = [] } ∷ []);
        tokens = tokens_after p (fetching w t h) w;
        kept = w.part.kept;
      };
      servers = servers_after p (fetching w t h) w;
    }) ×
    (16 ≤ length w.part.windows →
    (needs p.scripts (TurnOf i) w.part ≡ None) ×
    (happens p (TurnOf i) w ≡ record { part = record { windows = running p i w; tokens = w.part.tokens; kept = w.part.kept }; servers = w.servers }))

-- FINDS THE LAST KEPT. What a site keeps is what its windows kept last, over whole runs.
abbrev pub KeptLast : Type 0 → Type 0 → Type 0
KeptLast S R = (p : Sites S R) (v n : ℕ) (x : Run S R) → (after p n x).world.part.kept v ≡ latest (trace (step p) (kept_now p v) n x) (x.world.part.kept v)

-- A window that looks is told what its site keeps.
abbrev pub LooksFinds : Type 0 → Type 0 → Type 0
LooksFinds S R =
    (p : Sites S R) (w : World S R) (i : ℕ) (x : Window S) → nth i w.part.windows ≡ Some x → act_of p.scripts x ≡ Looks →
    nth i (happens p (TurnOf i) w).part.windows ≡ Some (after_turn p x (Kept (w.part.kept x.site)) (words_left x))

-- EVERY WORD IS TRUE. From the settings on, the words that wait for a window are the last of those that were said to it, in order, each once, and each under the site of the window that said it.
abbrev pub WordsTruly : Type 0 → Type 0 → Type 0
WordsTruly S R =
    (p : Sites S R) (g : Settings) (r : ℕ → R) (n j : ℕ) (y : Window S) → nth j (after p n (begin g r)).world.part.windows ≡ Some y →
    (gone : List Word) × (gone ++ y.words ≡ concat (trace (step p) (delivered_now p j) n (begin g r)))

-- LIMITS. From the settings on there are at most 16 windows, and at most 8 words wait for each.
abbrev pub Limits : Type 0 → Type 0 → Type 0
Limits S R = (p : Sites S R) (g : Settings) (r : ℕ → R) (n : ℕ) → (length (after p n (begin g r)).world.part.windows ≤ 16) × Every (λ x. length x.words ≤ 8) (after p n (begin g r)).world.part.windows

-- ONLY NAMED SITES. If the settings open windows of numbered sites only, every window is of a numbered site, and no other server is ever asked.
abbrev pub OnlyNamed : Type 0 → Type 0 → Type 0
OnlyNamed S R =
    (p : Sites S R) (g : Settings) (r : ℕ → R) (n : ℕ) → Every (λ o. o.site < p.scripts.sites) g.opens →
    Every (λ x. x.site < p.scripts.sites) (after p n (begin g r)).world.part.windows × NamedRequest p.scripts.sites (request_now p (after p n (begin g r)))

-- A ROUND of `n times all` gives a turn to each window that is there when it begins, by number, and to no other; one of no windows is over at once.
abbrev pub RoundLaw : Type 0 → Type 0 → Type 0
RoundLaw S R =
    (p : Sites S R) (w : World S R) (n : ℕ) (ls : List Line) →
    let x : Run S R = record { world = w; agenda = record { opens = []; round = []; lines = Rounds (suc n) ∷ ls } } in
    let m : ℕ = length w.part.windows in
    (0 < m → (trace (step p) event_now m x ≡ map (λ i. Some (TurnOf i)) (count_from 0 m)) × ((after p m x).agenda ≡ record { opens = []; round = []; lines = Rounds n ∷ ls })) ×
    (m ≡ 0 → ◌≡◌ {A = Option Due} (due_now x) (line_due 0 ls))

-- What a window may count on: what it is told next; what it sees of a reply; words to itself and ninth words; openings; what it finds.
pub record Readings (S R : Type 0) : Type 0 where
  pub told_next : ToldNext S R
  pub sees_own : SeesOwn S R
  pub word_to_oneself : WordToOneself S R
  pub ninth_word : NinthWord S R
  pub opens_window : OpensWindow S R
  pub looks_finds : LooksFinds S R
