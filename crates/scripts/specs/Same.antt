-- When two steps are the same. Assumes nothing.
use Rattle.std.specs.Prelude.{ℕ, Bool, List, [], ◌∷◌}
use Rattle.std.specs.Bool.{nat_eq}
use Rattle.std.specs.Ordering.{on}
use Rattle.std.specs.Cmp.Lexicographic.{pointwise}
use Rattle.scripts.specs.declared.Step.{Step}
use Rattle.scripts.specs.declared.Step.TheVariants.{Constant, Move, Sum, Product, Equal, Less, Jump, JumpIf, Load, Store, Wait}
use Rattle.scripts.specs.declared.Call.{Call}
use Rattle.scripts.specs.declared.Call.TheVariants.{Nothing, Ask, Say, Keep, Look, Open}

-- a wait's kind, its three places and its number
abbrev pub call_parts : Call → List ℕ
call_parts Nothing = 10 ∷ 0 ∷ 0 ∷ 0 ∷ 0 ∷ []
call_parts (Ask site path body) = 10 ∷ site ∷ path ∷ body ∷ 1 ∷ []
call_parts (Say window site bytes) = 10 ∷ window ∷ site ∷ bytes ∷ 2 ∷ []
call_parts (Keep bytes) = 10 ∷ bytes ∷ 0 ∷ 0 ∷ 3 ∷ []
call_parts Look = 10 ∷ 0 ∷ 0 ∷ 0 ∷ 4 ∷ []
call_parts (Open site path) = 10 ∷ site ∷ path ∷ 0 ∷ 5 ∷ []

-- a step's kind, its three places and its number
abbrev pub parts_of : Step → List ℕ
parts_of (Constant a number) = 0 ∷ a ∷ 0 ∷ 0 ∷ number ∷ []
parts_of (Move a b) = 1 ∷ a ∷ b ∷ 0 ∷ 0 ∷ []
parts_of (Sum a b c) = 2 ∷ a ∷ b ∷ c ∷ 0 ∷ []
parts_of (Product a b c) = 3 ∷ a ∷ b ∷ c ∷ 0 ∷ []
parts_of (Equal a b c) = 4 ∷ a ∷ b ∷ c ∷ 0 ∷ []
parts_of (Less a b c) = 5 ∷ a ∷ b ∷ c ∷ 0 ∷ []
parts_of (Jump number) = 6 ∷ 0 ∷ 0 ∷ 0 ∷ number ∷ []
parts_of (JumpIf a number) = 7 ∷ a ∷ 0 ∷ 0 ∷ number ∷ []
parts_of (Load a b) = 8 ∷ a ∷ b ∷ 0 ∷ 0 ∷ []
parts_of (Store a b) = 9 ∷ a ∷ b ∷ 0 ∷ 0 ∷ []
parts_of (Wait call) = call_parts call

-- whether two steps have the same parts
abbrev pub same_steps : Step → Step → Bool
same_steps = on parts_of (pointwise nat_eq)
