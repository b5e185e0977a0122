-- A round, turn by turn.
use Rattle.std.proofs.Common.{◌≡◌, ℕ, zero, suc, ◌<◌, List, [], ◌∷◌, map, length, Some, Option, sym, refl, ap, ◌∙◌, arith}
use Rattle.pages.specs.Sites.{Sites}
use Rattle.pages.specs.Browser.{World, Event, TurnOf, happens}
use Rattle.pages.specs.Runs.{Run, Line, Rounds, iterate, trace, count_from, line_due, due, due_now, step_by, step, after, event_by, event_now}
use Rattle.pages.specs.Laws.{RoundLaw}

module _ {S R : Type 0} (p : Sites S R) where
  abbrev turns_left : World S R → List ℕ → List Line → Run S R
  turns_left w is ls = record { world = w; agenda = record { opens = []; round = is; lines = ls } }

  -- the turns that are left in a round are had, one after another
  round-events : (is : List ℕ) (w : World S R) (ls : List Line) → trace (step p) event_now (length is) (turns_left w is ls) ≡ map (λ i. Some (TurnOf i)) is
  unfolding trace
  round-events [] w ls = refl
  round-events (i ∷ is) w ls = ap {B = List (Option Event)} (λ es. Some (TurnOf i) ∷ es) (round-events is (happens p (TurnOf i) w) ls)

  round-left : (is : List ℕ) (w : World S R) (ls : List Line) → (after p (length is) (turns_left w is ls)).agenda ≡ record { opens = []; round = []; lines = ls }
  unfolding iterate
  round-left [] w ls = refl
  round-left (i ∷ is) w ls = round-left is (happens p (TurnOf i) w) ls

pub length-count_from : (k n : ℕ) → length (count_from k n) ≡ n
unfolding count_from
length-count_from k zero = refl
length-count_from k (suc n) = ap suc (length-count_from (suc k) n)

module _ {S R : Type 0} (p : Sites S R) (w : World S R) (n : ℕ) (ls : List Line) where
  abbrev started : Run S R
  started = record { world = w; agenda = record { opens = []; round = []; lines = Rounds (suc n) ∷ ls } }

  -- the same round, with its turns written out
  abbrev listed : ℕ → Run S R
  listed m = turns_left p w (count_from 0 m) (Rounds n ∷ ls)

  same_step : (m : ℕ) → length w.part.windows ≡ suc m → step p started ≡ step p (listed (suc m))
  unfolding line_due count_from
  same_step m e = ap (λ c. step_by p started (due c started.agenda)) e

  same_event : (m : ℕ) → length w.part.windows ≡ suc m → event_now started ≡ event_now (listed (suc m))
  unfolding line_due count_from
  same_event m e = ap (λ c. event_by (due c started.agenda)) e

  events_are : (m : ℕ) → length w.part.windows ≡ suc m → trace (step p) event_now (suc m) started ≡ map (λ i. Some (TurnOf i)) (count_from 0 (suc m))
  unfolding trace
  events_are m e =
      let a = same_step m e in
      let b = same_event m e in
      let first : trace (step p) event_now (suc m) started ≡ trace (step p) event_now (suc m) (listed (suc m)) = cc in
      first ∙ ap (λ c. trace (step p) event_now c (listed (suc m))) (sym (length-count_from 0 (suc m))) ∙ round-events p (count_from 0 (suc m)) w (Rounds n ∷ ls)

  left_is : (m : ℕ) → length w.part.windows ≡ suc m → (after p (suc m) started).agenda ≡ record { opens = []; round = []; lines = Rounds n ∷ ls }
  unfolding iterate
  left_is m e =
      ap (λ x. (iterate (step p) m x).agenda) (same_step m e)
      ∙ ap (λ c. (iterate (step p) c (listed (suc m))).agenda) (sym (length-count_from 0 (suc m)))
      ∙ round-left p (count_from 0 (suc m)) w (Rounds n ∷ ls)

  nobody_there : length w.part.windows ≡ 0 → due_now started ≡ line_due 0 ls
  unfolding line_due
  nobody_there e = ap (λ c. due c started.agenda) e

  abbrev Turns : ℕ → Type 0
  Turns m = (trace (step p) event_now m started ≡ map (λ i. Some (TurnOf i)) (count_from 0 m)) × ((after p m started).agenda ≡ record { opens = []; round = []; lines = Rounds n ∷ ls })

  turns : (m : ℕ) → length w.part.windows ≡ m → 0 < m → Turns m
  turns zero e h = absurd (omega arith)
  turns (suc m) e h = (events_are m e, left_is m e)

pub round_law : (S R : Type 0) → RoundLaw S R
round_law S R p w n ls = (turns p w n ls (length w.part.windows) refl, nobody_there p w n ls)
