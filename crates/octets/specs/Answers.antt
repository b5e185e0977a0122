-- What a reader answers. Assumes nothing.
use Rattle.std.specs.Prelude.{ℕ}

-- what was read, or the number of a fault
pub data Answer (A : Type 0) : Type 0 where
  Read : A → Answer A
  Fault : (number : ℕ) → Answer A
