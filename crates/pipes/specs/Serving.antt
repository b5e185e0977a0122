-- What becomes of servers that are asked over streams.
use Rattle.std.specs.Prelude.{◌≡◌, ℕ, true, List, [], ◌∷◌, Some, None, Option, is_some}
use Rattle.pages.specs.Browser.{nth}

-- A request to a site of this number, and its answer.
pub record Exchange : Type 0 where
  pub site : ℕ
  pub request : List ℕ
  pub answer : List ℕ

-- These exchanges, the last one first, each with a site of the table, lead from one to the other.
abbrev pub Took : {C : Type 0} → (ℕ → C → ℕ → List ℕ → List ℕ → C → Type 0) → ℕ → List (List ℕ × ℕ) → List Exchange → C → C → Type 0
Took {C} carries room sites [] a c = c ≡ a
Took {C} carries room sites (x ∷ xs) a c = (b : C) × Took carries room sites xs a b × carries room b x.site x.request x.answer c × (is_some (nth x.site sites) ≡ true)

-- Some exchanges lead from one to the other.
abbrev pub Served : {C : Type 0} → (ℕ → C → ℕ → List ℕ → List ℕ → C → Type 0) → ℕ → List (List ℕ × ℕ) → C → C → Type 0
Served carries room sites a c = (xs : List Exchange) × Took carries room sites xs a c

-- At most this exchange, which is with the site of this name, leads from one to the other.
abbrev pub Asks : {C : Type 0} → (ℕ → C → ℕ → List ℕ → List ℕ → C → Type 0) → ℕ → List (List ℕ × ℕ) → List ℕ × ℕ → Option Exchange → C → C → Type 0
Asks carries room sites site None a c = c ≡ a
Asks carries room sites site (Some x) a c = carries room a x.site x.request x.answer c × (nth x.site sites ≡ Some site)

-- The server of the site of this name is asked once, or none is.
abbrev pub ServedOnce : {C : Type 0} → (ℕ → C → ℕ → List ℕ → List ℕ → C → Type 0) → ℕ → List (List ℕ × ℕ) → List ℕ × ℕ → C → C → Type 0
ServedOnce carries room sites site a c = (x : Option Exchange) × Asks carries room sites site x a c
