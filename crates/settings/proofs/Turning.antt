-- Lines of turns, one after another. Assumes nothing.
use Rattle.std.proofs.Common.{◌≡◌, ℕ, ◌+◌, ◌<◌, List, [], ◌∷◌, length, Some, None, Option, sym, refl, ap, ◌∙◌, arith}
use Rattle.settings.specs.declared.lines.TurnLine.{TurnLine}
use Rattle.settings.specs.Lines.{lines, turn_line, next_by}
use Rattle.settings.specs.Settings.{Good, Bad, turn_then, turns_from, turn_and, turns_of}
use Rattle.settings.proofs.Cuts.{next-some, next-none}

-- what the lines ls from line k on give is given by the lines ms from line j on too
pub record GoesOn (j : ℕ) (ms : List (Option (List ℕ))) (k : ℕ) (ls : List (Option (List ℕ))) : Type 0 where
  pub good : turns_from k ls ≡ Good (turns_of ls) → turns_from j ms ≡ Good (turns_of ms)
  pub bad : (n l : ℕ) → turns_from k ls ≡ Bad n l → turns_from j ms ≡ Bad n l

-- the turns at the front of a text
pub turns-some : (s t : List ℕ) (x : TurnLine) → next_by turn_line s ≡ Some (x, t) → turns_of (lines s) ≡ x ∷ turns_of (lines t)
turns-some s t x e = let h = next-some turn_line s t x e in ap turns_of h.1 ∙ ap (λ o. turn_and o (turns_of (lines t))) h.2

pub turns-none : (s : List ℕ) → next_by turn_line s ≡ None → turns_of (lines s) ≡ []
turns-none [] e = refl
turns-none (b ∷ s) e =
    let h = next-none turn_line (b ∷ s) (omega arith) e in
    ap turns_of h.2 ∙ ap (λ o. turn_and o (turns_of h.1)) h.3

-- one line of turns
pub goes_on : (j k : ℕ) (ms : List (Option (List ℕ))) (s t : List ℕ) (x : TurnLine) → next_by turn_line s ≡ Some (x, t) → GoesOn j ms k (lines s) → GoesOn j ms (k + 1) (lines t)
goes_on j k ms s t x e g =
    let h = next-some turn_line s t x e in
    let step : turns_from k (lines s) ≡ turn_then (Some x) k (turns_from (k + 1) (lines t)) = ap (turns_from k) h.1 ∙ ap (λ o. turn_then o k (turns_from (k + 1) (lines t))) h.2 in
    record {
      good = λ q. g.good (step ∙ ap (turn_then (Some x) k) q ∙ ap Good (sym (turns-some s t x e)));
      bad = λ n l q. g.bad n l (step ∙ ap (turn_then (Some x) k) q);
    }

-- the first line is no line of turns, or there is none
module _ (j k : ℕ) (ms : List (Option (List ℕ))) (s : List ℕ) (e : next_by turn_line s ≡ None) (g : GoesOn j ms k (lines s)) where
  pub turns_bad : 0 < length s → turns_from j ms ≡ Bad 1 k
  turns_bad h =
      let t = next-none turn_line s h e in
      g.bad 1 k (ap (turns_from k) t.2 ∙ ap (λ o. turn_then o k (turns_from (k + 1) t.1)) t.3)
