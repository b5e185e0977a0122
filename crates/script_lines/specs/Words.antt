-- Words of a line: numbers, registers and names.
use Rattle.std.specs.Prelude.{ℕ, ◌+◌, ◌-◌, ◌*◌, Bool, cond, not, ◌&&◌, ◌||◌, List, [], ◌∷◌, length, Some, None, codes, Option, ◌==◌, nat_le, nat_lt, slice_index}
use Rattle.octets.specs.Classes.{within}
use Rattle.octets.specs.Fronts.{and_then, after}
use Rattle.octets.specs.Numbers.{number}

-- what a hexadecimal digit stands for; 16 if it is none
abbrev pub hex_value : ℕ → ℕ
hex_value b = cond (within 48 57 b) (b - 48) (cond (within 97 102 b) (b - 87) (cond (within 65 70 b) (b - 55) 16))

-- the number that hexadecimal digits write, after those of n, if it has 32 bits
abbrev pub hex_from : ℕ → List ℕ → Option ℕ
hex_from n [] = Some n
hex_from n (d ∷ ds) = cond (nat_lt (hex_value d) 16 && nat_le (n * 16 + hex_value d) 4294967295) (hex_from (n * 16 + hex_value d) ds) None

-- the number that some digits write, if it is at most max
abbrev pub decimal_in : ℕ → List ℕ → Option ℕ
decimal_in max w = cond (length w == 0) None (number max 0 w)

-- the byte of a character between quotes
abbrev pub char_in : List ℕ → Option ℕ
char_in w = cond (length w == 3 && (slice_index w 0 == 39 && slice_index w 2 == 39)) (Some (slice_index w 1)) None

-- hexadecimal digits if they follow `0x`, and else a character
abbrev pub hex_or_char : Option (List ℕ) → List ℕ → Option ℕ
hex_or_char (Some ds) w = cond (length ds == 0) None (hex_from 0 ds)
hex_or_char None w = char_in w

-- the first of two that is there
abbrev pub or_else : Option ℕ → Option ℕ → Option ℕ
or_else (Some n) o = Some n
or_else None o = o

-- a number: decimal, hexadecimal after `0x`, or a character
abbrev pub number_in : List ℕ → Option ℕ
number_in w = or_else (decimal_in 4294967295 w) (hex_or_char (after (codes "0x") w) w)

-- `r0` to `r31`
abbrev pub register_in : List ℕ → Option ℕ
register_in w = and_then (after (codes "r") w) (decimal_in 31)

-- whether a word begins with a letter or `_`
abbrev pub is_name : List ℕ → Bool
is_name w =
    not (length w == 0)
    && (within 97 122 (slice_index w 0) || (within 65 90 (slice_index w 0) || slice_index w 0 == 95))
