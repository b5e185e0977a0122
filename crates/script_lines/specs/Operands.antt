-- Operands: the next word of a line as a number.
use Rattle.std.specs.Prelude.{ℕ, Bool, cond, List, length, Some, None, Ok, Err, Option, Result, nat_le}
use Rattle.std.specs.Borrow.{Bor}
use Rattle.octets.specs.declared.Class.TheVariants.{Blank, Visible}
use Rattle.octets.specs.Classes.{has}
use Rattle.octets.specs.Fronts.{front, past}
use Rattle.script_lines.specs.declared.Fault.{Fault}
use Rattle.script_lines.specs.declared.Expected.{Expected}
use Rattle.script_lines.specs.declared.Expected.TheVariants as expected
use Rattle.script_lines.specs.declared.Operand.{Operand}
use Rattle.script_lines.specs.declared.Operand.TheVariants.{Register, Number, Byte, Kind, Call, Place}
use Rattle.script_lines.specs.Words.{number_in, register_in}

-- what is left of a line without the blanks before it
abbrev pub skipped : List ℕ → List ℕ
skipped s = past (has Blank) s

-- the next word
abbrev pub word_in : List ℕ → List ℕ
word_in s = front (has Visible) (skipped s)

-- what follows the next word
abbrev pub rest_in : List ℕ → List ℕ
rest_in s = past (has Visible) (skipped s)

-- something else was expected at the next word
abbrev pub fault_at : List ℕ → Expected → Fault
fault_at s what = record { left = length (skipped s); expected = what }

-- the largest number that an operand stands for
abbrev pub most_of : Operand → ℕ
most_of Register = 31
most_of Number = 4294967295
most_of Byte = 255
most_of Kind = 10
most_of Call = 5
most_of Place = 4095

-- a number that is at most max
abbrev pub under : ℕ → Option ℕ → Option ℕ
under max None = None
under max (Some n) = cond (nat_le n max) (Some n) None

-- what a word stands for
abbrev pub value_in : Operand → List ℕ → Option ℕ
value_in Register w = register_in w
value_in Number w = under 4294967295 (number_in w)
value_in Byte w = under 255 (number_in w)
value_in Kind w = under 10 (number_in w)
value_in Call w = under 5 (number_in w)
value_in Place w = under 4095 (number_in w)

-- one reader after another, up to the first fault
abbrev pub and_on : {A B : Type 0} → Result A Fault → (A → Result B Fault) → Result B Fault
and_on (Err fault) f = Err fault
and_on (Ok x) f = f x

-- a value with what follows it, or a fault before it
abbrev pub taken : {A : Type 0} → Option A → Expected → List ℕ → Result (A × List ℕ) Fault
taken None what s = Err (fault_at s what)
taken (Some x) what s = Ok (x, rest_in s)

-- the next word as an operand, and what follows it
abbrev pub operand_in : Operand → List ℕ → Result (ℕ × List ℕ) Fault
operand_in operand s = taken (value_in operand (word_in s)) (expected.Operand operand) s

-- a register if one is wanted, and else 0
abbrev pub register_if : Bool → List ℕ → Result (ℕ × List ℕ) Fault
register_if wanted s = cond wanted (operand_in Register s) (Ok (0, s))

-- what a reader answers, by the bytes that follow
abbrev pub read_of : {A : Type 0} → Result (A × Bor (List ℕ)) Fault → Result (A × List ℕ) Fault
read_of (Ok p) = Ok (p.0, p.1.now)
read_of (Err fault) = Err fault
