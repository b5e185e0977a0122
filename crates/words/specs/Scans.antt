-- What a scanner found, and what is still to be read.
use Rattle.std.specs.Prelude.{ℕ, List, Some, None, Option}

-- What was found, with what follows it.
abbrev pub with : {A : Type 0} → Option A → List ℕ → Option (A × List ℕ)
with None s = None
with (Some x) s = Some (x, s)

-- What follows, or all of it.
abbrev pub rest_or : Option (List ℕ) → List ℕ → List ℕ
rest_or None s = s
rest_or (Some t) s = t
