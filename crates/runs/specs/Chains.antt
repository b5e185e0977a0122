-- Chains of steps, each of which leaves an entry.
use Rattle.std.specs.Prelude.{◌≡◌, ℕ, Bool, true, ◌⊎◌, List, [], ◌∷◌, length, Some, None, Option}
use Rattle.machine.specs.Script.{State}
use Rattle.pages.specs.Sites.{Bytes}
use Rattle.pages.specs.Browser.{Part}
use Rattle.pages.specs.Runs.{Agenda, Due, due}
use Rattle.browser.specs.Wire.{SiteTable}
use Rattle.book.specs.Records.{Entry}
use Rattle.runs.specs.Events.{Occurs}

-- From one state to another by steps with these entries, the latest first.
unfoldable pub Reached : {S E : Type 0} → (S → E → S → Type 0) → S → List E → S → Type 0
Reached R s [] t = t ≡ s
Reached {S = S} R s (e ∷ es) t = (u : S) × Reached R s es u × R u e t

-- A run at a moment: the browser's part, what is still to be done, what carries requests, and the book.
pub record Moment (C B : Type 0) : Type 0 where
  pub part : Part State
  pub agenda : Agenda
  pub carrier : C
  pub book : B

-- What is to be done at this moment.
abbrev pub due_at : {C B : Type 0} → Moment C B → Option Due
due_at x = due (length x.part.windows) x.agenda

-- ONE STEP of a run: what is due happens, and the book notes it.
pub record Step {C B : Type 0} (G : C → ℕ → Bytes → Bytes → C → Type 0) (N : B → Entry → B → Type 0) (room : ℕ) (table : SiteTable) (x : Moment C B) (entry : Entry) (y : Moment C B) : Type 0 where
  pub now_due : Due
  pub is_due : due_at x ≡ Some now_due
  pub occurs : Occurs G room table now_due.event x.part x.carrier entry y.part y.carrier
  pub left : y.agenda ≡ now_due.rest
  pub noted : N x.book entry y.book

-- A RUN from a moment on: step after step, until nothing is to be done any more, or what carries the requests has broken down.
pub record Ran {C B : Type 0} (G : C → ℕ → Bytes → Bytes → C → Type 0) (broken : C → Bool) (N : B → Entry → B → Type 0) (room : ℕ) (table : SiteTable) (start : Moment C B) (part : Part State) (carrier : C) (book : B) : Type 0 where
  pub entries : List Entry
  pub left : Agenda
  pub went : Reached (Step G N room table) start entries (record { part = part; agenda = left; carrier = carrier; book = book })
  pub over : (due (length part.windows) left ≡ None) ⊎ (broken carrier ≡ true)
