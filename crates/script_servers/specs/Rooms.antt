-- How many bytes of a room a text takes.
use Rattle.std.specs.Prelude.{ℕ, cond, List, length, nat_le}

-- all of it, or none where it does not fit
abbrev pub taken : List ℕ → List ℕ → ℕ
taken text room = cond (nat_le (length text) (length room)) (length text) 0
