-- How many events are left at most, with at most 16 windows.
use Rattle.std.proofs.Common.{◌≡◌, ℕ, zero, suc, ◌+◌, ◌*◌, ◌<◌, ◌≤◌, List, [], ◌∷◌, length, Some, sym, refl, ap, ◌∙◌, subst, arith}
use Rattle.octets.proofs.Options.{none-some, some_same}
use Rattle.pages.specs.Browser.{Event}
use Rattle.plans.specs.Agendas.{event_in, rest_of}
use Rattle.runs.proofs.Chaining.{some-due}
use Rattle.pages.specs.Runs.{Open, Line, Turn, Rounds, Agenda, Due, due, due_by, line_due, count_from}

abbrev pub line_weight : Line → ℕ
line_weight (Turn i) = 1
line_weight (Rounds n) = 1 + n * 16

abbrev pub lines_weight : List Line → ℕ
lines_weight [] = 0
lines_weight (l ∷ ls) = line_weight l + lines_weight ls

abbrev pub weight : Agenda → ℕ
weight g = length g.opens + length g.round + lines_weight g.lines

length-count : (k n : ℕ) → length (count_from k n) ≡ n
unfolding count_from
length-count k zero = refl
length-count k (suc n) = ap suc (length-count (suc k) n)

-- where a due is this one
is_this : (d e : Due) (n : ℕ) → Some d ≡ Some e → weight d.rest < n → weight e.rest < n
is_this d e n s h = subst (λ z. weight z.rest < n) (some_same d e s) h

line_falls : (m : ℕ) (ls : List Line) (d : Due) → m ≤ 16 → line_due m ls ≡ Some d → weight d.rest < lines_weight ls
unfolding line_due
line_falls m [] d h e = absurd (none-some d e)
line_falls m (Turn i ∷ ls) d h e = is_this _ d _ e (omega arith)
line_falls m (Rounds zero ∷ ls) d h e = omega (arith, line_falls m ls d h e)
line_falls zero (Rounds (suc n) ∷ ls) d h e = omega (arith, line_falls zero ls d h e)
line_falls (suc m) (Rounds (suc n) ∷ ls) d h e = is_this _ d _ e (omega (arith, length-count 1 m))

falls : (m : ℕ) (g : Agenda) (d : Due) → m ≤ 16 → due m g ≡ Some d → weight d.rest < weight g
falls m g d h e = go g.opens g.round e
  where
    go : (os : List Open) (is : List ℕ) → due_by m os is g.lines ≡ Some d → weight d.rest < length os + length is + lines_weight g.lines
    go [] [] q = omega (arith, line_falls m g.lines d h q)
    go [] (i ∷ is) q = is_this _ d _ q (omega arith)
    go (o ∷ os) is q = is_this _ d _ q (omega arith)

-- So it is with what is left after the event that was due.
pub next_falls : (m : ℕ) (a a' : Agenda) (e : Event) → m ≤ 16 → Some e ≡ event_in (due m a) → a' ≡ rest_of (due m a) → weight a' < weight a
next_falls m a a' e few ev rs = let f = some-due (due m a) e ev in subst (λ z. weight z < weight a) (sym (rs ∙ ap rest_of f.1)) (falls m a f.0 few f.1)
