-- The fields of a message, up to the empty line that ends them. Assumes nothing.
use Rattle.std.specs.Prelude.{◌≡◌, ℕ, zero, suc, ◌≤◌, cond, List, [], ◌∷◌, ◌++◌, length, Some, None, Option, ◌==◌}
use Rattle.octets.specs.Answers.{Answer, Read, Fault}
use Rattle.lines.specs.Lines.{line_then, field_of, among}

-- one reader after another: the first fault wins
abbrev pub read_then : {A B : Type 0} → Answer A → (A → Answer B) → Answer B
read_then (Fault n) g = Fault n
read_then (Read x) g = g x

-- a reader of fields: what is known so far, a name and a value give what is known then
abbrev pub Taking : Type 0 → Type 0
Taking F = F → List ℕ → List ℕ → Answer F

-- one field: a fault of its value comes first, and a name that was there before is fault 7
abbrev pub field_taken : {F : Type 0} → Taking F → List (List ℕ) → F → List ℕ × List ℕ → Answer F
field_taken taking names f p = read_then (taking f p.0 p.1) (λ g. cond (among p.0 names) (Fault 7) (Read g))

-- a line that is no field is fault 6
abbrev pub field_then : {F : Type 0} → Taking F → (List (List ℕ) → F → Answer (F × List ℕ)) → List (List ℕ) → F → Option (List ℕ × List ℕ) → Answer (F × List ℕ)
field_then taking next names f None = Fault 6
field_then taking next names f (Some p) = read_then (field_taken taking names f p) (next (names ++ (p.0 ∷ [])))

-- the empty line ends the fields; a line without its end is fault 6
abbrev pub head_then : {F : Type 0} → Taking F → (List (List ℕ) → F → List ℕ → Answer (F × List ℕ)) → List (List ℕ) → F → Option (List ℕ × List ℕ) → Answer (F × List ℕ)
head_then taking next names f None = Fault 6
head_then taking next names f (Some p) = cond (length p.0 == 0) (Read (f, p.1)) (field_then taking (λ ns g. next ns g p.1) names f (field_of p.0))

-- the fields in at most k lines, and what follows them
unfoldable pub head : {F : Type 0} → Taking F → ℕ → List (List ℕ) → F → List ℕ → Answer (F × List ℕ)
head taking zero names f s = Fault 6
head taking (suc k) names f s = head_then taking (head taking k) names f (line_then s)

-- all fields: each line has a byte or more, so as many lines as bytes are enough
abbrev pub fields : {F : Type 0} → Taking F → F → List ℕ → Answer (F × List ℕ)
fields taking f s = head taking (length s) [] f s

-- more lines than bytes change nothing: the bound never is why a message is refused
abbrev pub Enough : Type 0 → Type 0
Enough F = (taking : Taking F) (k : ℕ) (names : List (List ℕ)) (f : F) (s : List ℕ) → length s ≤ k → head taking k names f s ≡ head taking (length s) names f s
