-- The front of a text, and what follows it. Assumes nothing.
use Rattle.std.specs.Prelude.{ℕ, Bool, cond, List, [], ◌∷◌, take, drop, Some, None, Option, ◌==◌}
use Rattle.std.specs.List.{prefix_len}

-- one reader after another: none if the first finds none
abbrev pub and_then : {A B : Type 0} → Option A → (A → Option B) → Option B
and_then None f = None
and_then (Some x) f = f x

-- what follows p in s, if s begins with p
abbrev pub after : List ℕ → List ℕ → Option (List ℕ)
after [] s = Some s
after (p ∷ ps) [] = None
after (p ∷ ps) (b ∷ bs) = cond (p == b) (after ps bs) None

-- the longest front whose bytes are all in the class
abbrev pub front : (ℕ → Bool) → List ℕ → List ℕ
front c s = take (prefix_len c s) s

-- what follows that front
abbrev pub past : (ℕ → Bool) → List ℕ → List ℕ
past c s = drop (prefix_len c s) s
