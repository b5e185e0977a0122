-- The lines of a message and their parts. Assumes nothing.
use Rattle.std.specs.Prelude.{ℕ, zero, suc, ◌+◌, ◌-◌, ◌*◌, ◌%◌, Bool, true, false, cond, ◌&&◌, ◌||◌, List, [], ◌∷◌, ◌++◌, length, take, Some, None, codes, decimal, Option, ◌==◌, nat_le}
use Rattle.std.specs.List.{prefix_len, suffix_len}
use Rattle.octets.specs.declared.Class.TheVariants.{Text, Token, Blank, Visible}
use Rattle.octets.specs.Classes.{has}
use Rattle.octets.specs.Fronts.{and_then, after, front, past}

-- the end of a line: carriage return and line feed
abbrev pub crlf : List ℕ
crlf = 13 ∷ 10 ∷ []

-- a line without its end, and what follows
abbrev pub line_then : List ℕ → Option (List ℕ × List ℕ)
line_then s = and_then (after crlf (past (has Text) s)) (λ t. Some (front (has Text) s, t))

-- without white space at its end
abbrev pub trim_end : List ℕ → List ℕ
trim_end v = take (length v - suffix_len (has Blank) v) v

-- without white space around it
abbrev pub trim : List ℕ → List ℕ
trim v = trim_end (past (has Blank) v)

-- name and value of a field's line: a name of one byte or more, a colon right after it, a value
abbrev pub field_of : List ℕ → Option (List ℕ × List ℕ)
field_of l = cond (length (front (has Token) l) == 0) None (and_then (after (codes ":") (past (has Token) l)) (λ v. Some (front (has Token) l, trim v)))

-- a letter in its small form
abbrev pub small : ℕ → ℕ
small b = cond (nat_le 65 b && nat_le b 90) (b + 32) b

-- the same name, without regard to case
abbrev pub same_name : List ℕ → List ℕ → Bool
same_name [] [] = true
same_name [] (y ∷ ys) = false
same_name (x ∷ xs) [] = false
same_name (x ∷ xs) (y ∷ ys) = small x == small y && same_name xs ys

-- is it one of the names
abbrev pub among : List ℕ → List (List ℕ) → Bool
among x [] = false
among x (y ∷ ys) = same_name x y || among x ys

-- where a name is marked: by its length and its first byte, so that two forms of one name are marked at one place
abbrev pub slot : List ℕ → ℕ
slot [] = 0
slot (b ∷ bs) = (length (b ∷ bs) % 128 * 33 + small b) % 128

-- the names of the first k lines
abbrev pub names_from : (List ℕ → List (List ℕ)) → Option (List ℕ × List ℕ) → List (List ℕ)
names_from next None = []
names_from next (Some p) = front (has Token) p.0 ∷ next p.1

unfoldable pub names_of : ℕ → List ℕ → List (List ℕ)
names_of zero s = []
names_of (suc k) s = names_from (names_of k) (line_then s)

-- the line of a field as it is written, without its end
abbrev pub field_text : List ℕ → List ℕ → List ℕ
field_text name v = name ++ (codes ": " ++ v)

-- a token that a server gives and is given back: 0 to 64 bytes from '!' to '~'
abbrev pub token_ok : List ℕ → Bool
token_ok v = nat_le (length v) 64 && prefix_len (has Visible) v == length v

abbrev pub token_fits : Option (List ℕ) → Bool
token_fits None = true
token_fits (Some t) = token_ok t

-- the line of a token, by what it starts with, if there is one
abbrev pub token_line : List ℕ → Option (List ℕ) → List ℕ
token_line start None = []
token_line start (Some t) = start ++ (t ++ crlf)

-- the length of the body, and the empty line
abbrev pub length_line : List ℕ → List ℕ
length_line body = codes "content-length: " ++ (decimal (length body) ++ (crlf ++ crlf))
