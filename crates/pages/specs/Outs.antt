-- What sites let out in a turn, and to whom.
use Rattle.std.specs.Prelude.{ℕ, Bool, true, false, cond, not, ◌&&◌, ◌||◌, List, [], ◌∷◌, Some, None, Option, ◌==◌}
use Rattle.pages.specs.Sites.{Bytes, Act, Idle, Asks, Says, Keeps, Looks, Opens, Request, Reply, Unreadable, Readable, Sites}
use Rattle.pages.specs.Browser.{Window, World, nth, act_of, needs_of, served, Event, Opening, TurnOf}

-- What is let out: what a page asks another site's server; what it says to a window of another site; that it opens a window; what a server lets another site's page see.
pub data What : Type 0 where
  Asked : (path body : Bytes) → What
  Said : (window : ℕ) (what : Bytes) → What
  Opened : (path : Bytes) → What
  Let : (code : ℕ) (body : Bytes) → What

-- Which site lets it out, and to which one.
pub record Out : Type 0 where
  pub from : ℕ
  pub to : ℕ
  pub what : What

-- Site s lets this out to site t.
abbrev pub out : ℕ → ℕ → What → Out
out s t x = record { from = s; to = t; what = x }

-- Is there a window, of site t?
abbrev pub is_of : {S : Type 0} → ℕ → Option (Window S) → Bool
is_of t None = false
is_of t (Some x) = x.site == t

-- Site t's server lets a page of site s see its reply, if it can be read and says so.
abbrev pub let_by : ℕ → ℕ → Reply → List Out
let_by t s Unreadable = []
let_by t s (Readable c d k lets) = cond (lets s) (out t s (Let c d) ∷ []) []

-- What is let out where a page of site s does something and this is the reply, if a server was asked. What stays within a site is not let out, but every opening is, also where there is no room.
abbrev pub outs_by : {S : Type 0} → List (Window S) → ℕ → Act → Reply → List Out
outs_by ws s Idle r = []
outs_by ws s (Asks t h d) r = cond (t == s) [] (out s t (Asked h d) ∷ let_by t s r)
outs_by ws s (Says j t d) r = cond (not (t == s) && is_of t (nth j ws)) (out s t (Said j d) ∷ []) []
outs_by ws s (Keeps d) r = []
outs_by ws s Looks r = []
outs_by ws s (Opens t h) r = out s t (Opened h) ∷ []

module _ {S R : Type 0} where
  -- The reply to a request, where there is one.
  abbrev pub reply_to : Sites S R → Option Request → (ℕ → R) → Reply
  reply_to p None r = Unreadable
  reply_to p (Some q) r = (served p q r).reply

  -- What is let out in the turn of the window that is there, if one is.
  abbrev pub outs_of : Sites S R → Option (Window S) → World S R → List Out
  outs_of p None w = []
  outs_of p (Some x) w = outs_by w.part.windows x.site (act_of p.scripts x) (reply_to p (needs_of p.scripts (Some x) w.part) w.servers)

  -- WHAT IS LET OUT in an event, by all sites.
  abbrev pub outs : Sites S R → Event → World S R → List Out
  outs p (Opening t h) w = []
  outs p (TurnOf i) w = outs_of p (nth i w.part.windows) w

-- A group of sites: those of which it is true.
abbrev pub Group : Type 0
Group = ℕ → Bool

-- Is it an opening?
abbrev pub is_opened : What → Bool
is_opened (Asked h d) = false
is_opened (Said j d) = false
is_opened (Opened h) = true
is_opened (Let c d) = false

-- Does it go from the group to the outside? Everybody sees which windows there are, so an opening always does.
abbrev pub reaches : Group → Out → Bool
reaches h o = h o.from && (is_opened o.what || not (h o.to))

-- Is it let out by a site outside the group?
abbrev pub by_others : Group → Out → Bool
by_others h o = not (h o.from)

-- Those of which f is true.
unfoldable pub keep_only : {A : Type 0} → (A → Bool) → List A → List A
keep_only f [] = []
keep_only f (x ∷ xs) = cond (f x) (x ∷ keep_only f xs) (keep_only f xs)

-- What a group lets out to the outside.
abbrev pub let_out : Group → List Out → List Out
let_out h = keep_only (reaches h)
