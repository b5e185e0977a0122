-- Settings as bytes: the sites, the windows to open, and the lines of turns. Assumes nothing.
use Rattle.std.specs.Prelude.{ℕ, ◌+◌, Bool, true, false, cond, ◌&&◌, List, [], ◌∷◌, ◌++◌, length, Some, None, Option, ◌==◌, nat_le, nat_lt}
use Rattle.std.specs.Str.{bytes_eq}
use Rattle.octets.specs.Fronts.{and_then}
use Rattle.settings.specs.declared.lines.TurnLine.{TurnLine}
use Rattle.settings.specs.Lines.{lines, head_line, turn_line}

-- what settings say: each site's host and port by its number, each window's site and path, and the lines of turns
pub record Config : Type 0 where
  pub sites : List (List ℕ × ℕ)
  pub opens : List (ℕ × List ℕ)
  pub turns : List TurnLine

-- what the reader answers: what was read, or a fault and its line
pub data Outcome (A : Type 0) : Type 0 where
  Good : A → Outcome A
  Bad : (number line : ℕ) → Outcome A

-- two sites are one if host and port are the same
abbrev pub same_site : List ℕ × ℕ → List ℕ × ℕ → Bool
same_site a b = a.1 == b.1 && bytes_eq a.0 b.0

-- the number of a site among those named, or the next number
abbrev pub place : List ℕ × ℕ → List (List ℕ × ℕ) → ℕ
place s [] = 0
place s (x ∷ xs) = cond (same_site s x) 0 (1 + place s xs)

-- the number of a site, if it has one
abbrev pub number_of : List ℕ × ℕ → List (List ℕ × ℕ) → Option ℕ
number_of s xs = cond (nat_lt (place s xs) (length xs)) (Some (place s xs)) None

-- the sites once s is named too
abbrev pub named : List ℕ × ℕ → List (List ℕ × ℕ) → List (List ℕ × ℕ)
named s xs = cond (nat_lt (place s xs) (length xs)) xs (xs ++ (s ∷ []))

-- the windows after a line that opens one, or does not
abbrev pub opened : Bool → ℕ × List ℕ → List (ℕ × List ℕ) → List (ℕ × List ℕ)
opened false o os = os
opened true o os = os ++ (o ∷ [])

-- the settings after a line that names a site
abbrev pub added : Config → Bool × (List ℕ × ℕ × List ℕ) → Config
added c h = record {
  sites = named (h.1.0, h.1.1) c.sites;
  opens = opened h.0 (place (h.1.0, h.1.1) c.sites, h.1.2) c.opens;
  turns = c.turns;
}

-- at most 16 sites and 16 windows
abbrev pub few : Config → Bool
few c = nat_le (length c.sites) 16 && nat_le (length c.opens) 16

-- a line of turns, or fault 1, and then the others
abbrev pub turn_then : Option TurnLine → ℕ → Outcome (List TurnLine) → Outcome (List TurnLine)
turn_then None k r = Bad 1 k
turn_then (Some t) k (Good ts) = Good (t ∷ ts)
turn_then (Some t) k (Bad n l) = Bad n l

-- lines of turns and no others, from line k on
abbrev pub turns_from : ℕ → List (Option (List ℕ)) → Outcome (List TurnLine)
turns_from k [] = Good []
turns_from k (l ∷ ls) = turn_then (and_then l turn_line) k (turns_from (k + 1) ls)

abbrev pub with_turns : Config → Outcome (List TurnLine) → Outcome Config
with_turns c (Good ts) = Good (record { sites = c.sites; opens = c.opens; turns = ts })
with_turns c (Bad n l) = Bad n l

-- a line that names a site, or fault 2, and then the others; if it is no such line, the turns begin
abbrev pub head_then : Config → Option (Bool × (List ℕ × ℕ × List ℕ)) → ℕ → (Config → Outcome Config) → Outcome Config → Outcome Config
head_then c None k others turns = turns
head_then c (Some h) k others turns = cond (few (added c h)) (others (added c h)) (Bad 2 k)

-- lines from line k on, after those that gave c
abbrev pub lines_from : Config → ℕ → List (Option (List ℕ)) → Outcome Config
lines_from c k [] = Good c
lines_from c k (l ∷ ls) = head_then c (and_then l head_line) k (λ d. lines_from d (k + 1) ls) (with_turns c (turns_from k (l ∷ ls)))

abbrev pub no_settings : Config
no_settings = record { sites = []; opens = []; turns = [] }

-- the whole text, its lines counted from 1
abbrev pub read_settings : List ℕ → Outcome Config
read_settings s = lines_from no_settings 1 (lines s)

-- a line of turns and those after it; none if it is no such line
abbrev pub turn_and : Option TurnLine → List TurnLine → List TurnLine
turn_and None ts = []
turn_and (Some t) ts = t ∷ ts

-- the lines of turns at the front
abbrev pub turns_of : List (Option (List ℕ)) → List TurnLine
turns_of [] = []
turns_of (l ∷ ls) = turn_and (and_then l turn_line) (turns_of ls)
