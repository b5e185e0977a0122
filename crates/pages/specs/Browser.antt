-- A browser: windows, tokens and stores; and what a turn does, before a server is asked and after it has replied.
use Rattle.std.specs.Prelude.{ℕ, zero, suc, Bool, true, false, cond, ◌&&◌, ◌||◌, List, [], ◌∷◌, ◌++◌, length, Some, None, Option, ◌==◌, nat_lt}
use Rattle.pages.specs.Sites.{Bytes, Act, Idle, Asks, Says, Keeps, Looks, Opens, Told, Silence, Begun, Answer, Barred, Heard, Kept, Request, Reply, Unreadable, Readable, Served, Scripts, Sites}

-- A word that waits for a window: which site's window said it, and what.
pub record Word : Type 0 where
  pub from : ℕ
  pub what : Bytes

-- A window is of one site for ever. It has its script's state, what it is to be told of its own doing, and the words that wait for it, the oldest first.
pub record Window (S : Type 0) : Type 0 where
  pub site : ℕ
  pub state : S
  pub own : Told
  pub words : List Word

-- The browser's part of the world. Windows are numbered as they were opened; each site has a token, if its server set one, and what it keeps.
pub record Part (S : Type 0) : Type 0 where
  pub windows : List (Window S)
  pub tokens : ℕ → Option Bytes
  pub kept : ℕ → Bytes

-- The browser's part, and the states of the sites' servers.
pub record World (S R : Type 0) : Type 0 where
  pub part : Part S
  pub servers : ℕ → R

-- The most windows.
abbrev pub most_windows : ℕ
most_windows = 16

-- The most words that wait for a window.
abbrev pub most_words : ℕ
most_words = 8

-- f with x at i.
abbrev pub at : {A : Type 0} → ℕ → A → (ℕ → A) → ℕ → A
at i x f j = cond (j == i) x (f j)

-- What stands at place i of a list, if the list is so long.
unfoldable pub nth : {A : Type 0} → ℕ → List A → Option A
nth i [] = None
nth zero (x ∷ xs) = Some x
nth (suc i) (x ∷ xs) = nth i xs

-- A list with f done at place i.
unfoldable pub change : {A : Type 0} → ℕ → (A → A) → List A → List A
change i f [] = []
change zero f (x ∷ xs) = f x ∷ xs
change (suc i) f (x ∷ xs) = x ∷ change i f xs

-- Is there nothing to be told?
abbrev pub is_silence : Told → Bool
is_silence Silence = true
is_silence (Begun h) = false
is_silence (Answer t c d) = false
is_silence (Barred t) = false
is_silence (Heard s d) = false
is_silence (Kept d) = false

-- The oldest word, as it is told.
abbrev pub first_word : List Word → Told
first_word [] = Silence
first_word (m ∷ ms) = Heard m.from m.what

-- The words but the oldest.
abbrev pub other_words : List Word → List Word
other_words [] = []
other_words (m ∷ ms) = ms

-- An act that names a site without a number counts as nothing.
abbrev pub named : ℕ → Act → Act
named n Idle = Idle
named n (Asks t h d) = cond (nat_lt t n) (Asks t h d) Idle
named n (Says j t d) = cond (nat_lt t n) (Says j t d) Idle
named n (Keeps d) = Keeps d
named n Looks = Looks
named n (Opens t h) = cond (nat_lt t n) (Opens t h) Idle

-- May a page of site s see what site t's server replied? Its own server's reply, if it can be read; another's, if that lets it.
abbrev pub may_see : ℕ → ℕ → Reply → Bool
may_see s t Unreadable = false
may_see s t (Readable c d k lets) = s == t || lets s

-- What a page is told of a reply that it may see, and of one that it may not: the same, whatever the reply is.
abbrev pub told_of : Bool → ℕ → Reply → Told
told_of seen t Unreadable = Barred t
told_of seen t (Readable c d k lets) = cond seen (Answer t c d) (Barred t)

-- What a page of site s is told of site t's reply.
abbrev pub answered : ℕ → ℕ → Reply → Told
answered s t r = told_of (may_see s t r) t r

-- A server's token after its reply: the one that the reply sets, seen or not; else the old one.
abbrev pub token_after : Reply → Option Bytes → Option Bytes
token_after Unreadable old = old
token_after (Readable c d None lets) old = old
token_after (Readable c d (Some k) lets) old = Some k

-- A page is the body of a reply that can be read.
abbrev pub page_in : Reply → Option Bytes
page_in Unreadable = None
page_in (Readable c d k lets) = Some d

module _ {S : Type 0} where
  -- What a window is told in its turn: what comes of its own doing, else the oldest word.
  abbrev pub told_now : Window S → Told
  told_now x = cond (is_silence x.own) (first_word x.words) x.own

  -- What its script does then.
  abbrev pub act_of : Scripts S → Window S → Act
  act_of c x = named c.sites (c.act x.site x.state (told_now x))

  -- The words that wait after its turn began.
  abbrev pub words_left : Window S → List Word
  words_left x = cond (is_silence x.own) (other_words x.words) x.words

  -- The window once its script has run: what it was told is taken away.
  abbrev pub stepped : Scripts S → Window S → Window S
  stepped c x = record { site = x.site; state = c.next x.site x.state (told_now x); own = Silence; words = words_left x }

  -- The window, to be told of its own doing.
  abbrev pub owns : Told → Window S → Window S
  owns t x = record { site = x.site; state = x.state; own = t; words = x.words }

  -- The window with one word more.
  abbrev pub joined : Word → Window S → Window S
  joined m x = record { site = x.site; state = x.state; own = x.own; words = x.words ++ (m ∷ []) }

  -- A word that is said to a window of site t: one of another site doesn't hear it, nor does one for which eight wait.
  abbrev pub hears : ℕ → Word → Window S → Window S
  hears t m x = cond (x.site == t && nat_lt (length x.words) most_words) (joined m x) x

  -- A window that has just been opened.
  abbrev pub fresh : Scripts S → ℕ → Bytes → Reply → Window S
  fresh c t h r = record { site = t; state = c.begin t (page_in r); own = Begun h; words = [] }

  -- The part with these windows.
  abbrev pub with_windows : List (Window S) → Part S → Part S
  with_windows xs b = record { windows = xs; tokens = b.tokens; kept = b.kept }

  -- An act of window i, of site s, as far as it needs no server.
  abbrev pub acted : ℕ → ℕ → Act → Part S → Part S
  acted i s Idle b = b
  acted i s (Asks t h d) b = b
  acted i s (Says j t d) b = with_windows (change j (hears t (record { from = s; what = d })) b.windows) b
  acted i s (Keeps d) b = record { windows = b.windows; tokens = b.tokens; kept = at s d b.kept }
  acted i s Looks b = with_windows (change i (owns (Kept (b.kept s))) b.windows) b
  acted i s (Opens t h) b = b

  -- A page of site t is asked for in nobody's name, where there is room for a window more.
  abbrev pub page_needed : ℕ → Bytes → Part S → Option Request
  page_needed t h b = cond (nat_lt (length b.windows) most_windows) (Some (record { site = t; from = None; token = b.tokens t; path = h; body = [] })) None

  -- What an act of a window of site s asks of a server.
  abbrev pub needs_by : ℕ → Act → Part S → Option Request
  needs_by s Idle b = None
  needs_by s (Asks t h d) b = Some (record { site = t; from = Some s; token = b.tokens t; path = h; body = d })
  needs_by s (Says j t d) b = None
  needs_by s (Keeps d) b = None
  needs_by s Looks b = None
  needs_by s (Opens t h) b = page_needed t h b

  -- The token is taken from a reply to a request, and these are the windows.
  abbrev pub with_reply : Request → Reply → List (Window S) → Part S → Part S
  with_reply q r xs b = record { windows = xs; tokens = at q.site (token_after r (b.tokens q.site)) b.tokens; kept = b.kept }

  -- A reply comes for window i: to its page's asking, or to the opening of a new window.
  abbrev pub replied_to : Scripts S → ℕ → Option ℕ → Request → Reply → Part S → Part S
  replied_to c i (Some s) q r b = with_reply q r (change i (owns (answered s q.site r)) b.windows) b
  replied_to c i None q r b = with_reply q r (b.windows ++ (fresh c q.site q.path r ∷ [])) b

-- What may happen: the settings open a window of a site; or a window has its turn.
pub data Event : Type 0 where
  Opening : (site : ℕ) (path : Bytes) → Event
  TurnOf : (window : ℕ) → Event

module _ {S : Type 0} where
  -- A turn of the window that is there, or none: the script steps, and does what needs no server.
  abbrev pub begun_by : Scripts S → ℕ → Option (Window S) → Part S → Part S
  begun_by c i None b = b
  begun_by c i (Some x) b = acted i x.site (act_of c x) (with_windows (change i (stepped c) b.windows) b)

  -- The request that its act makes.
  abbrev pub needs_of : Scripts S → Option (Window S) → Part S → Option Request
  needs_of c None b = None
  needs_of c (Some x) b = needs_by x.site (act_of c x) b

  -- FIRST HALF of an event: what is done before a server is asked.
  abbrev pub begun : Scripts S → Event → Part S → Part S
  begun c (Opening t h) b = b
  begun c (TurnOf i) b = begun_by c i (nth i b.windows) b

  -- What is then asked of a server, if anything is.
  abbrev pub needs : Scripts S → Event → Part S → Option Request
  needs c (Opening t h) b = page_needed t h b
  needs c (TurnOf i) b = needs_of c (nth i b.windows) b

  -- SECOND HALF: what is done with the reply.
  abbrev pub ended : Scripts S → Event → Request → Reply → Part S → Part S
  ended c (Opening t h) q r b = replied_to c 0 None q r b
  ended c (TurnOf i) q r b = replied_to c i q.from q r b

module _ {S R : Type 0} where
  -- What the asked site's server does with a request.
  abbrev pub served : Sites S R → Request → (ℕ → R) → Served R
  served p q r = p.serve q (r q.site)

  -- The world after a request, if there was one: its reply is taken, and the asked server alone has a new state.
  abbrev pub exchanged : Sites S R → Event → Option Request → Part S → (ℕ → R) → World S R
  exchanged p e None b r = record { part = b; servers = r }
  exchanged p e (Some q) b r = record { part = ended p.scripts e q (served p q r).reply b; servers = at q.site (served p q r).state r }

  -- THE EVENT, whole.
  abbrev pub happens : Sites S R → Event → World S R → World S R
  happens p e w = exchanged p e (needs p.scripts e w.part) (begun p.scripts e w.part) w.servers
