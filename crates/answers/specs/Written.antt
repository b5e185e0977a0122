-- Answers as they are written. Assumes nothing.
use Rattle.std.specs.Prelude.{ℕ, ◌+◌, ◌/◌, ◌%◌, Bool, true, ◌&&◌, List, [], ◌∷◌, ◌++◌, length, Some, None, codes, Option, nat_le}
use Rattle.addresses.specs.Address.{site_ok}
use Rattle.addresses.specs.Written.{site_text}
use Rattle.lines.specs.Lines.{crlf, field_text, token_fits, token_line, length_line}
use Rattle.answers.specs.declared.Kind.{Kind}
use Rattle.answers.specs.Answers.{limit, Allows, All, Only, Content}

-- a number below 1,000 in three digits
abbrev pub three_digits : ℕ → List ℕ
three_digits n = (48 + n / 100) ∷ ((48 + n / 10 % 10) ∷ ((48 + n % 10) ∷ []))

abbrev pub allows_text : Allows → List ℕ
allows_text All = codes "*"
allows_text (Only host port) = site_text host port

-- the line of whom it allows, if it allows anybody
abbrev pub allowed_line : Option Allows → List ℕ
allowed_line None = []
allowed_line (Some a) = field_text (codes "access-control-allow-origin") (allows_text a) ++ crlf

-- an answer, with no reason after its code
abbrev pub answer_text : Content → List ℕ
answer_text a =
    (codes "HTTP/1.1 " ++ (three_digits a.code ++ (codes " " ++ crlf)))
    ++ (token_line (codes "set-cookie: ") a.token ++ (allowed_line a.allowed ++ (length_line a.body ++ a.body)))

abbrev pub allows_fits : Option Allows → Bool
allows_fits None = true
allows_fits (Some All) = true
allows_fits (Some (Only host port)) = site_ok host port

-- each part within its rules, and the body within its limit
abbrev pub can_write : Kind → Content → Bool
can_write kind a = nat_le a.code 999 && (token_fits a.token && (allows_fits a.allowed && nat_le (length a.body) (limit kind)))
