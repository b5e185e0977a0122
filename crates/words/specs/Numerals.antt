-- Decimal numbers without leading zeros, behind a fixed text.
use Rattle.std.specs.Prelude.{ℕ, Bool, false, cond, not, ◌||◌, List, [], ◌∷◌, length, Some, None, Option, ◌==◌}
use Rattle.octets.specs.declared.Class.TheVariants.{Digit}
use Rattle.octets.specs.Classes.{has}
use Rattle.octets.specs.Fronts.{and_then, after, front, past}
use Rattle.octets.specs.Numbers.{number}

-- Some digits, and no zero before others.
abbrev pub unpadded : List ℕ → Bool
unpadded [] = false
unpadded (d ∷ ds) = not (d == 48) || length ds == 0

-- A number of at most max.
abbrev pub numeral : ℕ → List ℕ → Option ℕ
numeral max ds = cond (unpadded ds) (number max 0 ds) None

-- The number behind a text, and what follows its digits.
abbrev pub number_after : List ℕ → ℕ → List ℕ → Option (ℕ × List ℕ)
number_after word max s = and_then (after word s) (λ t. and_then (numeral max (front (has Digit) t)) (λ n. Some (n, past (has Digit) t)))
