-- What a lent buffer holds after a text was written to it. Assumes nothing.
use Rattle.std.specs.Prelude.{ℕ, ◌+◌, ◌-◌, cond, List, ◌++◌, length, take, drop, Some, None, Option, nat_le}

-- what is left of n bytes of room after a text, if it fits
abbrev pub room_after : List ℕ → ℕ → Option ℕ
room_after t n = cond (nat_le (length t) n) (Some (n - length t)) None

-- a text that fits stands at the front and the rest is as it was; one that does not leaves all as it was
abbrev pub written : List ℕ → List ℕ → List ℕ
written t out = cond (nat_le (length t) (length out)) (t ++ drop (length t) out) out

-- how many bytes were written
abbrev pub count : List ℕ → List ℕ → Option ℕ
count t out = cond (nat_le (length t) (length out)) (Some (length t)) None

-- what a buffer holds once a text stands in it from a place on
abbrev pub over : ℕ → List ℕ → List ℕ → List ℕ
over at out t = take at out ++ (t ++ drop (at + length t) out)

-- the same as `written`, from a place on
abbrev pub written_from : ℕ → List ℕ → List ℕ → List ℕ
written_from at t out = cond (nat_le (at + length t) (length out)) (over at out t) out

-- the place after what was written
abbrev pub count_from : ℕ → List ℕ → List ℕ → Option ℕ
count_from at t out = cond (nat_le (at + length t) (length out)) (Some (at + length t)) None
