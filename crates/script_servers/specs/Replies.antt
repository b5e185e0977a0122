-- What a server that a script plays answers: by the registers as its wait leaves them.
use Rattle.std.specs.Prelude.{ℕ, cond, List, [], length, Some, None, Option, ◌==◌, nat_le, nat_lt}
use Rattle.std.specs.Option.{option_map}
use Rattle.std.specs.List.{slice_get}
use Rattle.octets.specs.Fronts.{and_then}
use Rattle.answers.specs.Answers.{Allows, All, Only, Content}
use Rattle.answers.specs.Written.{answer_text, can_write}
use Rattle.answers.specs.declared.Kind.{Kind}
use Rattle.machine.specs.declared.Act.TheVariants.{Nothing, Ask, Say, Keep, Look, Open}
use Rattle.machine.specs.declared.Outcome.{Outcome}
use Rattle.machine.specs.declared.Outcome.TheVariants.{Did, Refused, Paused, Faulted, Idle}
use Rattle.machine.specs.Limits.{part}
use Rattle.machine.specs.Script.{State}
use Rattle.machine.specs.Step.{register, span_at}

-- the bytes that two neighbouring registers name, where they lie in the memory
abbrev pub part_at : State → ℕ → Option (List ℕ)
part_at x a = option_map (λ span. part span x.memory) (span_at x.machine (length x.memory) a)

-- a code has three digits
abbrev pub code_by : ℕ → Option ℕ
code_by n = cond (nat_le n 999) (Some n) None

-- only this site
abbrev pub only : Option (List ℕ × ℕ) → Option (Option Allows)
only None = None
only (Some site) = Some (Some (Only site.0 site.1))

-- whom an answer allows: 16 is nobody, 17 everybody, and another number is that of a site in the table
abbrev pub allows_by : List (List ℕ × ℕ) → ℕ → Option (Option Allows)
allows_by sites n = cond (n == 16) (Some None) (cond (n == 17) (Some (Some All)) (only (slice_get sites n)))

-- a token's length and its bytes: one that is longer than a token may be is none
abbrev pub token_by : ℕ → Option (List ℕ) → Option (Option (List ℕ))
token_by len bytes = cond (nat_lt 64 len) (Some None) (option_map Some bytes)

-- the code is in register 9, whom it allows in 10, the body in 11 and 12, the token in 13 and 14
abbrev pub content_at : List (List ℕ × ℕ) → State → Option Content
content_at sites x =
    and_then (code_by (register x.machine 9)) (λ code.
    and_then (allows_by sites (register x.machine 10)) (λ allowed.
    and_then (part_at x 11) (λ body.
    and_then (token_by (register x.machine 14) (part_at x 13)) (λ token.
    Some (record { code = code; token = token; allowed = allowed; body = body })))))

-- an answer that is within the rules, as it is written; else nothing
abbrev pub text_by : Kind → Option Content → List ℕ
text_by kind None = []
text_by kind (Some a) = cond (can_write kind a) (answer_text a) []

-- any bytes, as they are; else nothing
abbrev pub raw_by : Option (List ℕ) → List ℕ
raw_by None = []
raw_by (Some bytes) = bytes

-- register 8 says what is answered: 6 an answer, 7 the bytes that registers 11 and 12 name, as they are; else nothing
abbrev pub reply_at : List (List ℕ × ℕ) → Kind → State → List ℕ
reply_at sites kind x =
    cond (register x.machine 8 == 6) (text_by kind (content_at sites x))
    (cond (register x.machine 8 == 7) (raw_by (part_at x 11)) [])

-- what comes of a turn: an answer only where the script waits for nothing
abbrev pub reply_by : Outcome → List (List ℕ × ℕ) → Kind → State → List ℕ
reply_by (Did Nothing) sites kind x = reply_at sites kind x
reply_by (Did (Ask site path body)) sites kind x = []
reply_by (Did (Say window site bytes)) sites kind x = []
reply_by (Did (Keep bytes)) sites kind x = []
reply_by (Did Look) sites kind x = []
reply_by (Did (Open site path)) sites kind x = []
reply_by Refused sites kind x = []
reply_by Paused sites kind x = []
reply_by Faulted sites kind x = []
reply_by Idle sites kind x = []
