-- Lines that name sites, one after another. Assumes nothing.
use Rattle.std.proofs.Common.{◌≡◌, ℕ, ◌+◌, Bool, true, false, cond, List, [], ◌∷◌, Some, None, sym, ap, ◌∙◌, arith}
use Rattle.std.proofs.lemmas.Bool.{cond-true, cond-false}
use Rattle.settings.specs.Lines.{lines, head_line, next_by}
use Rattle.settings.specs.Settings.{Config, Good, Bad, added, few, turns_from, with_turns, head_then, lines_from}
use Rattle.settings.proofs.Cuts.{next-some, next-none}

-- a line that names a site: h is what it says, and t what follows it
module _ (c : Config) (k : ℕ) (s t : List ℕ) (h : Bool × (List ℕ × ℕ × List ℕ)) (e : next_by head_line s ≡ Some (h, t)) where
  step : lines_from c k (lines s) ≡ cond (few (added c h)) (lines_from (added c h) (k + 1) (lines t)) (Bad 2 k)
  step =
      let n = next-some head_line s t h e in
      ap (lines_from c k) n.1 ∙ ap (λ o. head_then c o k (λ d. lines_from d (k + 1) (lines t)) (with_turns c (turns_from k (Some n.0 ∷ lines t)))) n.2

  pub names_one : few (added c h) ≡ true → lines_from c k (lines s) ≡ lines_from (added c h) (k + 1) (lines t)
  names_one y = step ∙ cond-true _ _ _ y

  pub names_many : few (added c h) ≡ false → lines_from c k (lines s) ≡ Bad 2 k
  names_many n = step ∙ cond-false _ _ _ n

-- the turns begin
pub turns-begin : (c : Config) (k : ℕ) (s : List ℕ) → c.turns ≡ [] → next_by head_line s ≡ None → lines_from c k (lines s) ≡ with_turns c (turns_from k (lines s))
turns-begin c k [] z e = λ i. Good (record { sites = c.sites; opens = c.opens; turns = z i })
turns-begin c k (b ∷ s) z e =
    let n = next-none head_line (b ∷ s) (omega arith) e in
    ap (lines_from c k) n.2 ∙ ap (λ o. head_then c o k (λ d. lines_from d (k + 1) n.1) (with_turns c (turns_from k (n.0 ∷ n.1)))) n.3 ∙ sym (ap (λ ls. with_turns c (turns_from k ls)) n.2)
