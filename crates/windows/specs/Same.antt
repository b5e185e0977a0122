-- When two windows stand for the same. Assumes nothing.
use Rattle.std.specs.Prelude.{ℕ, Bool, nat_eq, List, ◌∷◌}
use Rattle.std.specs.Ordering.{on, eq_of_both}
use Rattle.std.specs.Cmp.Lexicographic.{pointwise}
use Rattle.machine.specs.Script.{State}
use Rattle.machine.specs.Turn.{kind_of, site_of, code_of}
use Rattle.machine.specs.Same.{same_states}
use Rattle.pages.specs.Sites.{Told}
use Rattle.pages.specs.Browser.{Window}
use Rattle.windows.specs.Scripts.{machine_told, bytes_told}
use Rattle.windows.specs.Queues.{same_words}

-- What is told, as numbers: its kind, site and code, and its bytes.
abbrev pub told_numbers : Told → List ℕ
told_numbers told =
    kind_of (machine_told told) ∷ site_of (machine_told told) ∷ code_of (machine_told told) ∷ bytes_told told

-- Is the same told, with the same bytes?
abbrev pub same_told : Told → Told → Bool
same_told = on told_numbers (pointwise nat_eq)

-- Are two windows the same: of the same site, in the same state, told the same, with the same words?
abbrev pub same_windows : Window State → Window State → Bool
same_windows =
    eq_of_both (on (λ w. w.site) nat_eq)
    (eq_of_both (on (λ w. w.state) same_states) (eq_of_both (on (λ w. w.own) same_told) (on (λ w. w.words) (pointwise same_words))))
