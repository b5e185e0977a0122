-- What is of a site, and what an event does to it, seen from that site alone.
use Rattle.std.specs.Prelude.{◌≡◌, ℕ, suc, false, cond, List, [], ◌∷◌, ◌++◌, length, Some, None, Option, ◌==◌, nat_lt}
use Rattle.pages.specs.Sites.{Bytes, Act, Idle, Asks, Says, Keeps, Looks, Opens, Told, Kept, Request, Served, Sites}
use Rattle.pages.specs.Browser.{Window, Part, World, most_windows, nth, act_of, stepped, owns, hears, fresh, answered, token_after, Event, Opening, TurnOf}
use Rattle.pages.specs.Outs.{Group, is_of}
use Rattle.pages.specs.Runs.{Run, event_now}

-- Of which sites the windows are, by number: everybody may know.
unfoldable pub row : {S : Type 0} → List (Window S) → List ℕ
row [] = []
row (x ∷ xs) = x.site ∷ row xs

-- The windows of site v with their numbers, where the first has number k.
unfoldable pub of_site : {S : Type 0} → ℕ → ℕ → List (Window S) → List (ℕ × Window S)
of_site v k [] = []
of_site v k (x ∷ xs) = cond (x.site == v) ((k, x) ∷ of_site v (suc k) xs) (of_site v (suc k) xs)

-- All that is of a site: its windows with their numbers, its token, what it keeps, its server's state.
pub record View (S R : Type 0) : Type 0 where
  pub windows : List (ℕ × Window S)
  pub token : Option Bytes
  pub kept : Bytes
  pub server : R

-- The view of site v.
abbrev pub view_of : {S R : Type 0} → ℕ → World S R → View S R
view_of v w = record { windows = of_site v 0 w.part.windows; token = w.part.tokens v; kept = w.part.kept v; server = w.servers v }

-- Two worlds are alike but for a group: everybody may see the same windows, and all that is of a site outside it is the same.
pub record Alike {S R : Type 0} (h : Group) (w u : World S R) : Type 0 where
  pub public : row w.part.windows ≡ row u.part.windows
  pub views : (s : ℕ) → h s ≡ false → view_of s w ≡ view_of s u

-- What an event does to a site: a window of it runs; one is to be told something of its own doing; one is to be told what is kept; one hears a word; something is kept; its server is asked; a window of it is opened, with this number.
pub data Effect : Type 0 where
  Runs : (window : ℕ) → Effect
  Learns : (window : ℕ) (what : Told) → Effect
  Finds : (window : ℕ) → Effect
  Hears : (window from : ℕ) (what : Bytes) → Effect
  Stores : (what : Bytes) → Effect
  Serves : (from : ℕ) (path body : Bytes) → Effect
  Begins : (window : ℕ) (path : Bytes) → Effect

-- The windows, with f done at the one with number i.
unfoldable pub change_at : {S : Type 0} → ℕ → (Window S → Window S) → List (ℕ × Window S) → List (ℕ × Window S)
change_at i f [] = []
change_at i f (x ∷ xs) = cond (x.0 == i) ((x.0, f x.1) ∷ change_at i f xs) (x ∷ change_at i f xs)

-- Those effects, where they are for site v.
abbrev pub only_for : ℕ → ℕ → List Effect → List Effect
only_for v s es = cond (s == v) es []

-- A window of site t is opened, if there is room.
abbrev pub opening : {S : Type 0} → ℕ → ℕ → Bytes → Part S → List Effect
opening v t h b = only_for v t (cond (nat_lt (length b.windows) most_windows) (Begins (length b.windows) h ∷ []) [])

module _ {S R : Type 0} where
  -- A request to site v's server, with its token, and what comes of it.
  abbrev pub request_to : ℕ → Option ℕ → Bytes → Bytes → View S R → Request
  request_to v from h d x = record { site = v; from = from; token = x.token; path = h; body = d }

  -- What comes of such a request.
  abbrev pub served_to : Sites S R → ℕ → Option ℕ → Bytes → Bytes → View S R → Served R
  served_to p v from h d x = p.serve (request_to v from h d x) x.server

  -- The view with these windows.
  abbrev pub with_own : List (ℕ × Window S) → View S R → View S R
  with_own xs x = record { windows = xs; token = x.token; kept = x.kept; server = x.server }

  -- The view with these windows, once its server has served a request.
  abbrev pub with_served : List (ℕ × Window S) → Served R → View S R → View S R
  with_served xs v x = record { windows = xs; token = token_after v.reply x.token; kept = x.kept; server = v.state }

  -- THE VIEW after an effect: a function of the view before, and of nothing else.
  abbrev pub takes : Sites S R → ℕ → Effect → View S R → View S R
  takes p v (Runs i) x = with_own (change_at i (stepped p.scripts) x.windows) x
  takes p v (Learns i t) x = with_own (change_at i (owns t) x.windows) x
  takes p v (Finds i) x = with_own (change_at i (owns (Kept x.kept)) x.windows) x
  takes p v (Hears j s d) x = with_own (change_at j (hears v (record { from = s; what = d })) x.windows) x
  takes p v (Stores d) x = record { windows = x.windows; token = x.token; kept = d; server = x.server }
  takes p v (Serves s h d) x = with_served x.windows (served_to p v (Some s) h d x) x
  takes p v (Begins n h) x = with_served (x.windows ++ ((n, fresh p.scripts v h (served_to p v None h [] x).reply) ∷ [])) (served_to p v None h [] x) x

  -- One effect after the other.
  unfoldable pub takes_all : Sites S R → ℕ → List Effect → View S R → View S R
  takes_all p v [] x = x
  takes_all p v (e ∷ es) x = takes_all p v es (takes p v e x)

  -- What an act of window i, of site s, does to site v, beside running the window.
  abbrev pub effects_by : Sites S R → ℕ → ℕ → ℕ → Act → World S R → List Effect
  effects_by p v i s Idle w = []
  effects_by p v i s (Asks t h d) w = only_for v t (Serves s h d ∷ []) ++ only_for v s (Learns i (answered s t (p.serve (record { site = t; from = Some s; token = w.part.tokens t; path = h; body = d }) (w.servers t)).reply) ∷ [])
  effects_by p v i s (Says j t d) w = only_for v t (cond (is_of t (nth j w.part.windows)) (Hears j s d ∷ []) [])
  effects_by p v i s (Keeps d) w = only_for v s (Stores d ∷ [])
  effects_by p v i s Looks w = only_for v s (Finds i ∷ [])
  effects_by p v i s (Opens t h) w = opening v t h w.part

  -- What a turn of the window that is there, if one is, does to site v.
  abbrev pub effects_of : Sites S R → ℕ → ℕ → Option (Window S) → World S R → List Effect
  effects_of p v i None w = []
  effects_of p v i (Some x) w = only_for v x.site (Runs i ∷ []) ++ effects_by p v i x.site (act_of p.scripts x) w

  -- WHAT AN EVENT DOES to site v.
  abbrev pub effects : Sites S R → ℕ → Event → World S R → List Effect
  effects p v (Opening t h) w = opening v t h w.part
  effects p v (TurnOf i) w = effects_of p v i (nth i w.part.windows) w

  -- What an event does to it, if there is one.
  abbrev pub effects_on : Sites S R → ℕ → World S R → Option Event → List Effect
  effects_on p v w None = []
  effects_on p v w (Some e) = effects p v e w

  -- What the event at this moment does to it.
  abbrev pub effects_now : Sites S R → ℕ → Run S R → List Effect
  effects_now p v x = effects_on p v x.world (event_now x)

-- The lists one after another.
unfoldable pub concat : {A : Type 0} → List (List A) → List A
concat [] = []
concat (xs ∷ xss) = xs ++ concat xss
