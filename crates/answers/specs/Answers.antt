-- Answers as bytes: a status line, fields, an empty line, a body. Assumes nothing.
use Rattle.std.specs.Prelude.{ℕ, cond, ◌&&◌, List, length, Some, None, codes, Option, ◌==◌, nat_lt, slice_index}
use Rattle.std.specs.List.{prefix_len}
use Rattle.octets.specs.declared.Class.TheVariants.{Digit}
use Rattle.octets.specs.Answers.{Answer, Read, Fault}
use Rattle.octets.specs.Classes.{has}
use Rattle.octets.specs.Fronts.{and_then, after, front, past}
use Rattle.octets.specs.Numbers.{number}
use Rattle.addresses.specs.Address.{read_site}
use Rattle.lines.specs.Heads.{read_then, fields}
use Rattle.lines.specs.Lines.{line_then, same_name, token_ok}
use Rattle.answers.specs.declared.Kind.{Kind}
use Rattle.answers.specs.declared.Kind.TheVariants.{Asked, Page}

-- the most bytes of a body: of an answer to an asking page, and of a page that is opened
abbrev pub limit : Kind → ℕ
limit Asked = 4096
limit Page = 16384

-- whom an answer allows to see it: all, or one site
pub data Allows : Type 0 where
  All : Allows
  Only : (host : List ℕ) (port : ℕ) → Allows

-- what is known of an answer: its kind, and what its fields said so far
pub record Known : Type 0 where
  pub kind : Kind
  pub length : Option ℕ
  pub token : Option (List ℕ)
  pub allowed : Option Allows

-- before the first field
abbrev pub unknown : Kind → Known
unknown kind = record { kind = kind; length = None; token = None; allowed = None }

-- a number within the limit; else fault 6
abbrev pub in_limit : Option ℕ → Answer ℕ
in_limit None = Fault 6
in_limit (Some n) = Read n

-- a length within the limit; else fault 6
abbrev pub length_from : Known → Option ℕ → Answer Known
length_from f None = Fault 6
length_from f (Some n) = Read (record { kind = f.kind; length = Some n; token = f.token; allowed = f.allowed })

-- a length has digits only, and is within the limit
abbrev pub length_of : Kind → List ℕ → Answer ℕ
length_of kind v = cond (nat_lt 0 (length v) && prefix_len (has Digit) v == length v) (in_limit (number (limit kind) 0 v)) (Fault 7)

-- the field of that length; a length over the limit is fault 6
abbrev pub length_field : Known → List ℕ → Answer Known
length_field f v = cond (nat_lt 0 (length v) && prefix_len (has Digit) v == length v) (length_from f (number (limit f.kind) 0 v)) (Fault 7)

abbrev pub token_field : Known → List ℕ → Answer Known
token_field f v = cond (token_ok v) (Read (record { kind = f.kind; length = f.length; token = Some v; allowed = f.allowed })) (Fault 7)

-- '*', or a site with nothing after it
abbrev pub allows_of : List ℕ → Option Allows
allows_of v = cond (length v == 1 && slice_index v 0 == 42) (Some All) (and_then (read_site v) (λ s. Some (Only s.0 s.1)))

abbrev pub allowed_field : Known → Option Allows → Answer Known
allowed_field f None = Fault 7
allowed_field f (Some a) = Read (record { kind = f.kind; length = f.length; token = f.token; allowed = Some a })

-- a field by its name; the body has a length and no other encoding, and other fields say nothing
abbrev pub taking : Known → List ℕ → List ℕ → Answer Known
taking f name v =
    cond (same_name name (codes "transfer-encoding")) (Fault 6)
    (cond (same_name name (codes "content-length")) (length_field f v)
    (cond (same_name name (codes "set-cookie")) (token_field f v)
    (cond (same_name name (codes "access-control-allow-origin")) (allowed_field f (allows_of v)) (Read f))))

-- three digits, a space and any reason, and what follows that line
abbrev pub code_then : List ℕ → Option (ℕ × List ℕ)
code_then t =
    cond (prefix_len (has Digit) t == 3)
    (and_then (number 999 0 (front (has Digit) t)) (λ n. and_then (after (codes " ") (past (has Digit) t)) (λ u. and_then (line_then u) (λ p. Some (n, p.1)))))
    None

-- the code of the status line, and what follows it
abbrev pub status_then : List ℕ → Option (ℕ × List ℕ)
status_then s = and_then (after (codes "HTTP/1.1 ") s) code_then

-- what an answer says
pub record Content : Type 0 where
  pub code : ℕ
  pub token : Option (List ℕ)
  pub allowed : Option Allows
  pub body : List ℕ

-- the body has as many bytes as the fields say, and nothing follows it
abbrev pub body_of : ℕ → Known → Option ℕ → List ℕ → Answer Content
body_of code f None s = Fault 6
body_of code f (Some n) s = cond (length s == n) (Read (record { code = code; token = f.token; allowed = f.allowed; body = s })) (Fault 6)

abbrev pub answer_from : Kind → Option (ℕ × List ℕ) → Answer Content
answer_from kind None = Fault 6
answer_from kind (Some p) = read_then (fields taking (unknown kind) p.1) (λ h. body_of p.0 h.0 h.0.length h.1)

-- an answer that is read to its end, or its first fault
abbrev pub read_answer : Kind → List ℕ → Answer Content
read_answer kind s = answer_from kind (status_then s)
