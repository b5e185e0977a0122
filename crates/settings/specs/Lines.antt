-- The lines of settings, one by one. Assumes nothing.
use Rattle.std.specs.Prelude.{ℕ, Bool, true, false, cond, List, [], ◌∷◌, length, Some, None, codes, Option, ◌==◌}
use Rattle.octets.specs.declared.Class.TheVariants.{Digit, Line}
use Rattle.octets.specs.Answers.{Answer, Read, Fault}
use Rattle.octets.specs.Classes.{has}
use Rattle.octets.specs.Fronts.{and_then, after, front, past}
use Rattle.addresses.specs.Address.{read_address}
use Rattle.words.specs.Numerals.{numeral}
use Rattle.settings.specs.declared.lines.TurnLine.{TurnLine}
use Rattle.settings.specs.declared.lines.TurnLine.TheVariants.{Window, Rounds}

-- one byte more at the front of a text whose lines are known; a line that has no newline is none
abbrev pub grown : ℕ → List (Option (List ℕ)) → List (Option (List ℕ))
grown b [] = None ∷ []
grown b (None ∷ ls) = None ∷ ls
grown b (Some l ∷ ls) = Some (b ∷ l) ∷ ls

-- the lines of a text, each without its newline; a last line that has none can't be read, and is none
abbrev pub lines : List ℕ → List (Option (List ℕ))
lines [] = []
lines (b ∷ bs) = cond (b == 10) (Some [] ∷ lines bs) (grown b (lines bs))

-- a number of 1 to 9 digits
abbrev pub count : List ℕ → Option ℕ
count ds = numeral 999999999 ds

-- an address: its host, its port and its path
abbrev pub address_in : Answer (List ℕ × ℕ × List ℕ) → Option (List ℕ × ℕ × List ℕ)
address_in (Read a) = Some a
address_in (Fault n) = None

-- `site address`
abbrev pub site_from : Option (List ℕ) → Option (Bool × (List ℕ × ℕ × List ℕ))
site_from None = None
site_from (Some t) = and_then (address_in (read_address t)) (λ a. Some (false, a))

-- `open address`, or else a `site` line
abbrev pub open_from : Option (List ℕ) → List ℕ → Option (Bool × (List ℕ × ℕ × List ℕ))
open_from None l = site_from (after (codes "site ") l)
open_from (Some t) l = and_then (address_in (read_address t)) (λ a. Some (true, a))

-- a line that names a site: whether a window is opened, and the address
abbrev pub head_line : List ℕ → Option (Bool × (List ℕ × ℕ × List ℕ))
head_line l = open_from (after (codes "open ") l) l

-- `n times all`: the digits, and what follows them
abbrev pub rounds_from : List ℕ → Option (List ℕ) → Option TurnLine
rounds_from ds None = None
rounds_from ds (Some t) = cond (length t == 0) (and_then (count ds) (λ n. Some (Rounds n))) None

-- `turn n`, or else `n times all`
abbrev pub turn_from : Option (List ℕ) → List ℕ → Option TurnLine
turn_from None l = rounds_from (front (has Digit) l) (after (codes " times all") (past (has Digit) l))
turn_from (Some ds) l = and_then (count ds) (λ n. Some (Window n))

-- a line of turns
abbrev pub turn_line : List ℕ → Option TurnLine
turn_line l = turn_from (after (codes "turn ") l) l

-- the first line, and what follows its newline
abbrev pub line_then : List ℕ → Option (List ℕ × List ℕ)
line_then s = and_then (after (10 ∷ []) (past (has Line) s)) (λ t. Some (front (has Line) s, t))

-- what a reader of lines finds in the first line, and what follows its newline
abbrev pub next_by : {A : Type 0} → (List ℕ → Option A) → List ℕ → Option (A × List ℕ)
next_by read s = and_then (line_then s) (λ p. and_then (read p.0) (λ x. Some (x, p.1)))
