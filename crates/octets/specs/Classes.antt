-- Classes of bytes. Assumes nothing.
use Rattle.std.specs.Prelude.{ℕ, Bool, not, ◌&&◌, ◌||◌, ◌==◌, nat_le}
use Rattle.octets.specs.declared.Class.{Class}
use Rattle.octets.specs.declared.Class.TheVariants.{Digit, Label, Name, Visible, Text, Token, Blank, Line}

abbrev pub is_digit : ℕ → Bool
is_digit b = nat_le 48 b && nat_le b 57

-- a small letter or a digit
abbrev pub is_alnum : ℕ → Bool
is_alnum b = (nat_le 97 b && nat_le b 122) || is_digit b

abbrev pub within : ℕ → ℕ → ℕ → Bool
within a e b = nat_le a b && nat_le b e

-- a byte of a field's name: '!' to '~' without delimiters
abbrev pub is_token : ℕ → Bool
is_token b = within 33 33 b || (within 35 39 b || (within 42 43 b || (within 45 46 b || (within 48 57 b || (within 65 90 b || (within 94 122 b || (within 124 124 b || within 126 126 b)))))))

-- which bytes a class has
abbrev pub has : Class → ℕ → Bool
has Digit b = is_digit b
has Label b = is_alnum b || b == 45
has Name b = (is_alnum b || b == 45) || b == 46
has Visible b = nat_le 33 b && nat_le b 126
has Text b = (b == 9 || nat_le 32 b) && not (b == 127)
has Token b = is_token b
has Blank b = b == 9 || b == 32
has Line b = not (b == 10)
