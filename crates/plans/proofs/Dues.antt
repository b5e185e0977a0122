-- What is due, by the parts of an agenda.
use Rattle.std.proofs.Common.{◌≡◌, ℕ, zero, suc, ◌+◌, ◌-◌, ◌<◌, ◌≤◌, List, [], ◌∷◌, map, length, None, Option, sym, refl, ap, ◌∙◌, add-one, arith}
use Rattle.std.specs.Vec.Iter.{into_iter_items, into_iter_len}
use Rattle.std.specs.declared.vec.IntoIter.{IntoIter}
use Rattle.pages.specs.Runs.{Open, Line, Turn, Rounds, Agenda, Due, count_from, line_due, turn_due}

-- An agenda of which only lines are left.
abbrev pub only_lines : List Line → Agenda
only_lines ls = record { opens = []; round = []; lines = ls }

-- An iterator at its end has nothing left.
pub none_left : {A Z : Type 0} (it : IntoIter A Z) → into_iter_len it ≡ 0 → into_iter_items it ≡ []
none_left it h = empty (into_iter_items it) (sym it.rest.ok.0 ∙ h)
  where
    empty : {A : Type 0} (xs : List A) → length xs ≡ 0 → xs ≡ []
    empty [] e = refl
    empty (x ∷ xs) e = absurd (omega arith)

-- Windows that are all open, and a round that is over.
pub all_open : {A Z : Type 0} (f : A → Open) (it : IntoIter A Z) (n m : ℕ) (ls : List Line) → into_iter_items it ≡ [] → m ≤ n → ◌≡◌ {A = Agenda} (record { opens = map f (into_iter_items it); round = count_from n (m - n); lines = ls }) (only_lines ls)
unfolding count_from
all_open f it n m ls a l =
    let b : m - n ≡ 0 = omega arith in
    let d : count_from n (m - n) ≡ [] = ap (count_from n) b in
    ap {B = Agenda} (λ z. record { opens = map f z; round = count_from n (m - n); lines = ls }) a ∙ ap {B = Agenda} (λ z. record { opens = []; round = z; lines = ls }) d

module _ (m : ℕ) (ls : List Line) where
  pub none-due : ◌≡◌ {A = Option Due} (line_due m []) None
  unfolding line_due
  none-due = refl

  pub turn_due_lem : (i : ℕ) → ◌≡◌ {A = Option Due} (line_due m (Turn i ∷ ls)) (turn_due i [] ls)
  unfolding line_due
  turn_due_lem i = refl

  pub round-due : (n : ℕ) → 0 < n → 0 < m → ◌≡◌ {A = Option Due} (line_due m (Rounds n ∷ ls)) (turn_due 0 (count_from 1 (m - 1)) (Rounds (n - 1) ∷ ls))
  unfolding line_due
  round-due n h k = go n m (n - 1) (m - 1) (omega arith) (omega arith)
    where
      go : (n m n' m' : ℕ) → n ≡ suc n' → m ≡ suc m' → ◌≡◌ {A = Option Due} (line_due m (Rounds n ∷ ls)) (turn_due 0 (count_from 1 m') (Rounds n' ∷ ls))
      go n m n' m' e f = ap {B = Option Due} (λ z. line_due m (Rounds z ∷ ls)) e ∙ ap {B = Option Due} (λ z. line_due z (Rounds (suc n') ∷ ls)) f

  -- No rounds, or rounds of no windows.
  pub no_rounds : (n : ℕ) → n ≡ 0 → ◌≡◌ {A = Option Due} (line_due m (Rounds n ∷ ls)) (line_due m ls)
  unfolding line_due
  no_rounds n e = ap {B = Option Due} (λ z. line_due m (Rounds z ∷ ls)) e

pub no_windows : (m n : ℕ) (ls : List Line) → m ≡ 0 → ◌≡◌ {A = Option Due} (line_due m (Rounds n ∷ ls)) (line_due m ls)
unfolding line_due
no_windows m n ls e = ap {B = Option Due} (λ z. line_due z (Rounds n ∷ ls)) e ∙ go n ∙ ap {B = Option Due} (λ z. line_due z ls) (sym e)
  where
    go : (n : ℕ) → ◌≡◌ {A = Option Due} (line_due 0 (Rounds n ∷ ls)) (line_due 0 ls)
    go zero = refl
    go (suc n) = refl

-- One more window of the round.
pub round-more : (n m : ℕ) → n < m → count_from n (m - n) ≡ n ∷ count_from (n + 1) (m - (n + 1))
unfolding count_from
round-more n m h = go (m - n) (m - (n + 1)) (omega arith)
  where
    go : (a b : ℕ) → a ≡ suc b → count_from n a ≡ n ∷ count_from (n + 1) b
    go a b e = ap (count_from n) e ∙ ap (λ z. n ∷ count_from z b) (sym (add-one n))

-- An agenda of which nothing is done yet.
pub fresh : (os : List Open) (ls : List Line) → ◌≡◌ {A = Agenda} (record { opens = os; round = count_from 0 (0 - 0); lines = ls }) (record { opens = os; round = []; lines = ls })
unfolding count_from
fresh os ls = refl
