-- What is read is within its limits.
use Rattle.std.specs.Prelude.{◌≡◌, ℕ, ◌≤◌, true, List, length}
use Rattle.octets.specs.Answers.{Read}
use Rattle.lines.specs.Lines.{token_fits}
use Rattle.answers.specs.declared.Kind.{Kind}
use Rattle.answers.specs.Answers.{limit, Content, read_answer}

-- the body of an answer that is read is within its limit, and its token is one
abbrev pub WithinLimits : Type 0
WithinLimits = (kind : Kind) (s : List ℕ) (a : Content) → read_answer kind s ≡ Read a → (length a.body ≤ limit kind) × (token_fits a.token ≡ true)
