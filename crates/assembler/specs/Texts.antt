-- The lines of a text, and where its labels are.
use Rattle.std.specs.Prelude.{ℕ, ◌+◌, ◌*◌, Bool, false, cond, List, [], ◌∷◌, length, Some, None, Ok, Err, Option, Result, ◌==◌, nat_le}
use Rattle.std.specs.Borrow.{Bor}
use Rattle.std.specs.Str.{bytes_eq}
use Rattle.script_lines.specs.declared.Fault.{Fault}
use Rattle.script_lines.specs.Reading.{Meaning, nothing, label, step, jump, bytes, line_in}

-- one byte more at the front of a text whose lines are known
abbrev pub grown : ℕ → List (List ℕ) → List (List ℕ)
grown b [] = (b ∷ []) ∷ []
grown b (l ∷ ls) = (b ∷ l) ∷ ls

-- the lines of a text, each without its line feed; the last one may have none
abbrev pub lines : List ℕ → List (List ℕ)
lines [] = []
lines (b ∷ bs) = cond (b == 10) ([] ∷ lines bs) (grown b (lines bs))

-- the lines of a text, by its first line and what follows
abbrev pub lines_by : Option (Bor (List ℕ) × Bor (List ℕ)) → List (List ℕ)
lines_by None = []
lines_by (Some p) = p.0.now ∷ lines p.1.now

-- a number of steps, counted up to 2,001: a script of more than 2,000 is refused
abbrev pub counted : ℕ → ℕ
counted n = cond (nat_le n 2000) n 2001

-- how many steps there are after those that a line stands for
abbrev pub steps_after : ℕ → Meaning → ℕ
steps_after at nothing = at
steps_after at (label name) = at
steps_after at (step row) = counted (at + 1)
steps_after at (jump row name left) = counted (at + 1)
steps_after at (bytes place x y bs) = counted (at + 3 * length bs)

-- whether a line is the label of a name
abbrev pub is_label_of : List ℕ → Meaning → Bool
is_label_of name nothing = false
is_label_of name (label other) = bytes_eq name other
is_label_of name (step row) = false
is_label_of name (jump row other left) = false
is_label_of name (bytes place x y bs) = false

-- how many steps there are after a line, unless it is the label that is looked for; one that cannot be read has none
abbrev pub past_line : List ℕ → ℕ → Result Meaning Fault → Option ℕ
past_line name at (Err fault) = Some at
past_line name at (Ok meaning) = cond (is_label_of name meaning) None (Some (steps_after at meaning))

-- a label was found at this line, or is to be looked for further on
abbrev pub found_or : Option ℕ → ℕ → ℕ → (ℕ → Option (ℕ × ℕ)) → Option (ℕ × ℕ)
found_or None k at others = Some (k, at)
found_or (Some next) k at others = others next

-- the first label of a name, after k lines and so many steps: how many lines and steps are before it
abbrev pub label_from : List ℕ → ℕ → ℕ → List (List ℕ) → Option (ℕ × ℕ)
label_from name k at [] = None
label_from name k at (l ∷ ls) = found_or (past_line name at (line_in l)) k at (λ next. label_from name (k + 1) next ls)

-- the first label of a name in a text
abbrev pub label_in : List ℕ → List ℕ → Option (ℕ × ℕ)
label_in name text = label_from name 0 0 (lines text)
