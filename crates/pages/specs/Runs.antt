-- Runs: what is still to be done, by the settings; one step; many; and what is seen of them.
use Rattle.std.specs.Prelude.{ℕ, zero, suc, List, [], ◌∷◌, length, Some, None, Option}
use Rattle.pages.specs.Sites.{Bytes, Request, Sites}
use Rattle.pages.specs.Browser.{World, Event, Opening, TurnOf, needs, happens}
use Rattle.pages.specs.Outs.{Out, outs}

-- n steps.
unfoldable pub iterate : {W : Type 0} → (W → W) → ℕ → W → W
iterate step zero w = w
iterate step (suc n) w = iterate step n (step w)

-- What is seen in each of n steps, the first one first.
unfoldable pub trace : {W O : Type 0} → (W → W) → (W → O) → ℕ → W → List O
trace step see zero w = []
trace step see (suc n) w = see w ∷ trace step see n (step w)

-- A window that the settings open: `open address`.
pub record Open : Type 0 where
  pub site : ℕ
  pub path : Bytes

-- A line of turns: `turn n`, and `n times all`: n rounds, in each of which every window that is there when it begins has a turn, by number.
pub data Line : Type 0 where
  Turn : (window : ℕ) → Line
  Rounds : (count : ℕ) → Line

-- What is still to be done: windows to open; windows that have yet to have their turn in this round; lines.
pub record Agenda : Type 0 where
  pub opens : List Open
  pub round : List ℕ
  pub lines : List Line

-- n numbers, from k on.
unfoldable pub count_from : ℕ → ℕ → List ℕ
count_from k zero = []
count_from k (suc n) = k ∷ count_from (suc k) n

-- What is to be done now, and what is left then.
pub record Due : Type 0 where
  pub event : Event
  pub rest : Agenda

-- A turn of window i, and these are left.
abbrev pub turn_due : ℕ → List ℕ → List Line → Option Due
turn_due i is ls = Some (record { event = TurnOf i; rest = record { opens = []; round = is; lines = ls } })

-- The first turn of some lines, where there are m windows. A round of no windows is over at once.
unfoldable pub line_due : ℕ → List Line → Option Due
line_due m [] = None
line_due m (Turn i ∷ ls) = turn_due i [] ls
line_due m (Rounds zero ∷ ls) = line_due m ls
line_due zero (Rounds (suc n) ∷ ls) = line_due zero ls
line_due (suc m) (Rounds (suc n) ∷ ls) = turn_due 0 (count_from 1 m) (Rounds n ∷ ls)

-- The turns that are left in this round come before the lines.
abbrev pub round_due : ℕ → List ℕ → List Line → Option Due
round_due m [] ls = line_due m ls
round_due m (i ∷ is) ls = turn_due i is ls

-- The windows to be opened come first.
abbrev pub due_by : ℕ → List Open → List ℕ → List Line → Option Due
due_by m [] is ls = round_due m is ls
due_by m (o ∷ os) is ls = Some (record { event = Opening o.site o.path; rest = record { opens = os; round = is; lines = ls } })

-- Windows are opened first, then turns are had, in the order of the lines.
abbrev pub due : ℕ → Agenda → Option Due
due m g = due_by m g.opens g.round g.lines

-- The event alone.
abbrev pub event_by : Option Due → Option Event
event_by None = None
event_by (Some d) = Some d.event

-- A run at a moment: the world, and what is still to be done.
pub record Run (S R : Type 0) : Type 0 where
  pub world : World S R
  pub agenda : Agenda

-- What the settings say is to be done.
pub record Settings : Type 0 where
  pub opens : List Open
  pub lines : List Line

module _ {S R : Type 0} where
  -- What is to be done at this moment.
  abbrev pub due_now : Run S R → Option Due
  due_now x = due (length x.world.part.windows) x.agenda

  -- The run after what was due.
  abbrev pub step_by : Sites S R → Run S R → Option Due → Run S R
  step_by p x None = x
  step_by p x (Some d) = record { world = happens p d.event x.world; agenda = d.rest }

  -- One event, or none where all is done.
  abbrev pub step : Sites S R → Run S R → Run S R
  step p x = step_by p x (due_now x)

  -- The run after n events.
  abbrev pub after : Sites S R → ℕ → Run S R → Run S R
  after p = iterate (step p)

  -- Which event it is.
  abbrev pub event_now : Run S R → Option Event
  event_now x = event_by (due_now x)

  -- What is let out in an event, if there is one.
  abbrev pub outs_on : Sites S R → World S R → Option Event → List Out
  outs_on p w None = []
  outs_on p w (Some e) = outs p e w

  -- What is let out in it.
  abbrev pub outs_now : Sites S R → Run S R → List Out
  outs_now p x = outs_on p x.world (event_now x)

  -- What is asked of a server in an event, if there is one.
  abbrev pub request_on : Sites S R → World S R → Option Event → Option Request
  request_on p w None = None
  request_on p w (Some e) = needs p.scripts e w.part

  -- What is asked of a server in it.
  abbrev pub request_now : Sites S R → Run S R → Option Request
  request_now p x = request_on p x.world (event_now x)

  -- A browser that has just been started: no windows, no tokens, nothing kept; the servers are in these states.
  abbrev pub begin : Settings → (ℕ → R) → Run S R
  begin g r = record { world = record { part = record { windows = []; tokens = λ s. None; kept = λ s. [] }; servers = r }; agenda = record { opens = g.opens; round = []; lines = g.lines } }
