-- What a vector of fixed room stands for.
use Rattle.std.specs.Prelude.{ℕ, cond, List, [], ◌∷◌, ◌++◌, length, take, Some, None, Option, nat_le, nat_lt}
use Rattle.bounded.specs.declared.fixed.FixedVec.{FixedVec}

-- Its values, in their order.
abbrev pub items_of : {T : Type 0} {n : ℕ} → FixedVec T n → List T
items_of v = take v.len v.items

-- These values, if they are at most n.
abbrev pub up_to : {T : Type 0} → ℕ → List T → Option (List T)
up_to n xs = cond (nat_le (length xs) n) (Some xs) None

-- One value more at the end, if they are fewer than n.
abbrev pub appended : {T : Type 0} → ℕ → T → List T → List T
appended n x xs = cond (nat_lt (length xs) n) (xs ++ (x ∷ [])) xs
