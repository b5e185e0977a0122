-- Bytes in hex, behind a fixed text.
use Rattle.std.specs.Prelude.{ℕ, ◌+◌, ◌-◌, ◌*◌, ◌/◌, ◌%◌, ◌<◌, Bool, cond, ◌&&◌, ◌||◌, List, [], ◌∷◌, length, Some, None, Option, nat_le, nat_lt}
use Rattle.std.specs.List.{AllByRecursion}
use Rattle.octets.specs.Classes.{is_digit}
use Rattle.octets.specs.Fronts.{and_then, after}

-- '0' to '9', and 'a' to 'f' from ten on.
abbrev pub hex_digit : ℕ → ℕ
hex_digit n = cond (nat_lt n 10) (48 + n) (87 + n)

-- Two digits a byte, the high one first.
abbrev pub hex_of : List ℕ → List ℕ
hex_of [] = []
hex_of (b ∷ bs) = hex_digit (b / 16) ∷ (hex_digit (b % 16) ∷ hex_of bs)

-- Is it one of the digits?
abbrev pub is_hex : ℕ → Bool
is_hex d = is_digit d || (nat_le 97 d && nat_le d 102)

-- The number that a digit stands for.
abbrev pub hex_value : ℕ → ℕ
hex_value d = cond (nat_le d 57) (d - 48) (d - 87)

-- A byte of two digits, and what follows them.
abbrev pub pair_then : List ℕ → Option (ℕ × List ℕ)
pair_then [] = None
pair_then (a ∷ []) = None
pair_then (a ∷ (b ∷ s)) = cond (is_hex a && is_hex b) (Some (16 * hex_value a + hex_value b, s)) None

-- The bytes of the pairs of digits at the front, and what follows them.
abbrev pub hex_then : List ℕ → List ℕ × List ℕ
hex_then [] = ([], [])
hex_then (a ∷ []) = ([], a ∷ [])
hex_then (a ∷ (b ∷ s)) = cond (is_hex a && is_hex b) ((16 * hex_value a + hex_value b) ∷ (hex_then s).0, (hex_then s).1) ([], a ∷ (b ∷ s))

-- The same, if they are at most n.
abbrev pub hex_within : ℕ → List ℕ → Option (List ℕ × List ℕ)
hex_within n s = cond (nat_le (length (hex_then s).0) n) (Some ((hex_then s).0, (hex_then s).1)) None

-- The bytes behind a text, and what follows them.
abbrev pub bytes_after : List ℕ → ℕ → List ℕ → Option (List ℕ × List ℕ)
bytes_after word n s = and_then (after word s) (hex_within n)

-- Each is a byte.
abbrev pub AllBytes : List ℕ → Type 0
AllBytes bs = AllByRecursion (λ b. b < 256) bs
