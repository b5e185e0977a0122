-- What the code's results stand for. Assumes nothing.
use Rattle.std.specs.Prelude.{ℕ, List, [], ◌∷◌, ◌++◌, Ok, Err, Result}
use Rattle.std.specs.Borrow.{Bor}
use Rattle.octets.specs.Texts.{text_of}
use Rattle.lines.specs.declared.written.Line.{Line}
use Rattle.lines.specs.declared.MessageFault.{MessageFault}
use Rattle.lines.specs.declared.MessageFault.TheVariants.{Unreadable, Value}
use Rattle.octets.specs.Answers.{Answer, Read, Fault}

-- the number of a fault
abbrev pub fault_number : MessageFault → ℕ
fault_number Unreadable = 6
fault_number Value = 7

-- what a result stands for, by what its value stands for
abbrev pub answer_of : {A B : Type 0} → (A → B) → Result A MessageFault → Answer B
answer_of f (Ok a) = Read (f a)
answer_of f (Err e) = Fault (fault_number e)

-- a value and the bytes that follow it
abbrev pub with_rest : {A B : Type 0} → (A → B) → A × Bor (List ℕ) → B × List ℕ
with_rest f p = (f p.0, p.1.now)

-- the bytes of a line's pieces
abbrev pub line_text : Line → List ℕ
line_text l = l.start.now ++ (l.value.now ++ (text_of l.digits ++ l.end.now))

-- the bytes of lines one after another, and what follows them
abbrev pub lines_then : List Line → List ℕ → List ℕ
lines_then [] rest = rest
lines_then (l ∷ ls) rest = line_text l ++ lines_then ls rest
