-- Numbers as decimal digits. Assumes nothing.
use Rattle.std.specs.Prelude.{ℕ, ◌+◌, ◌-◌, ◌*◌, cond, ◌&&◌, List, [], ◌∷◌, Some, None, Option, nat_le}
use Rattle.octets.specs.Classes.{is_digit}

-- the number that digits write, after those of n, if it is at most max
abbrev pub number : ℕ → ℕ → List ℕ → Option ℕ
number max n [] = Some n
number max n (d ∷ ds) = cond (is_digit d && nat_le (n * 10 + (d - 48)) max) (number max (n * 10 + (d - 48)) ds) None
