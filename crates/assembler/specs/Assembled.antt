-- The page file of a text.
use Rattle.std.specs.Prelude.{ℕ, ◌+◌, ◌-◌, ◌/◌, Bool, false, cond, List, [], ◌∷◌, ◌++◌, length, take, Some, None, Ok, Err, Option, Result, ◌==◌, nat_le}
use Rattle.octets.specs.Buffers as buffers
use Rattle.scripts.specs.Page.{row, head_of}
use Rattle.script_lines.specs.declared.Row.{Row}
use Rattle.script_lines.specs.declared.Fault.{Fault}
use Rattle.script_lines.specs.declared.Expected.TheVariants.{NewLabel, KnownLabel, FewerSteps}
use Rattle.script_lines.specs.Operands.{and_on, fault_at}
use Rattle.script_lines.specs.Reading.{Meaning, nothing, label, step, jump, bytes, numbered, line_in}
use Rattle.assembler.specs.declared.Refusal.{Refusal}
use Rattle.assembler.specs.Texts.{lines, label_in}

-- the bytes of a step
abbrev pub row_bytes : Row → List ℕ
row_bytes r = row r.kind r.a r.b r.c r.number

-- the three steps that put a byte into the memory
abbrev pub byte_rows : ℕ → ℕ → ℕ → ℕ → List ℕ
byte_rows place x y b = row 0 x 0 0 place ++ (row 0 y 0 0 b ++ row 9 x y 0 0)

-- the steps that put bytes into the memory from a place on
abbrev pub data_rows : ℕ → ℕ → ℕ → List ℕ → List ℕ
data_rows place x y [] = []
data_rows place x y (b ∷ bs) = byte_rows place x y b ++ data_rows (place + 1) x y bs

-- steps after those so far: at most 2,000 of 8 bytes
abbrev pub added : List ℕ → List ℕ → List ℕ → Result (List ℕ) Fault
added done l more = cond (nat_le (length done + length more) 16000) (Ok (done ++ more)) (Err (fault_at l FewerSteps))

-- whether the first label of a name stands after k lines
abbrev pub is_first : ℕ → Option (ℕ × ℕ) → Bool
is_first k None = false
is_first k (Some found) = found.0 == k

-- a step to a label that was found, after those so far
abbrev pub jumped : List ℕ → List ℕ → Row → ℕ → Option (ℕ × ℕ) → Result (List ℕ) Fault
jumped done l r left None = Err (record { left = left; expected = KnownLabel })
jumped done l r left (Some found) = added done l (row_bytes (numbered r found.1))

-- the steps so far, and those of a line after k others of a text
abbrev pub with_meaning : List ℕ → ℕ → List ℕ → List ℕ → Meaning → Result (List ℕ) Fault
with_meaning text k done l nothing = Ok done
with_meaning text k done l (label name) = cond (is_first k (label_in name text)) (Ok done) (Err (fault_at l NewLabel))
with_meaning text k done l (step r) = added done l (row_bytes r)
with_meaning text k done l (jump r name left) = jumped done l r left (label_in name text)
with_meaning text k done l (bytes place x y bs) = added done l (data_rows place x y bs)

-- the same, or why the line is refused
abbrev pub with_line : List ℕ → ℕ → List ℕ → List ℕ → Result (List ℕ) Fault
with_line text k done l = and_on (line_in l) (with_meaning text k done l)

-- a line that is refused: its number and the column, from 1 on, and what was expected there
abbrev pub refusal_at : ℕ → List ℕ → Fault → Refusal
refusal_at k l fault = record { line = k + 1; column = length l - fault.left + 1; expected = fault.expected }

-- the lines after one that was taken
abbrev pub go_on : Result (List ℕ) Fault → ℕ → List ℕ → (List ℕ → Result (List ℕ) Refusal) → Result (List ℕ) Refusal
go_on (Err fault) k l others = Err (refusal_at k l fault)
go_on (Ok done) k l others = others done

-- the steps so far, and those of lines after k others
abbrev pub lines_from : List ℕ → ℕ → List ℕ → List (List ℕ) → Result (List ℕ) Refusal
lines_from text k done [] = Ok done
lines_from text k done (l ∷ ls) = go_on (with_line text k done l) k l (λ more. lines_from text (k + 1) more ls)

-- a page file with its head
abbrev pub with_head : Result (List ℕ) Refusal → Result (List ℕ) Refusal
with_head (Err refusal) = Err refusal
with_head (Ok body) = Ok (head_of (length body / 8) ++ body)

-- the page file of a text, or the first refusal
abbrev pub assembled : List ℕ → Result (List ℕ) Refusal
assembled text = with_head (lines_from text 0 [] (lines text))

-- what a buffer holds at its front, by how much was written there
abbrev pub front_of : {E : Type 0} → Result ℕ E → List ℕ → Result (List ℕ) E
front_of (Err e) buffer = Err e
front_of (Ok n) buffer = Ok (take n buffer)

-- how many bytes were written to a buffer: none if the page has no room
abbrev pub size_in : Result (List ℕ) Refusal → List ℕ → Result (Option ℕ) Refusal
size_in (Err refusal) buffer = Err refusal
size_in (Ok page) buffer = Ok (buffers.count page buffer)

-- a buffer after the page was written to its front; as it was if there is none, or it has no room
abbrev pub buffer_after : Result (List ℕ) Refusal → List ℕ → List ℕ
buffer_after (Err refusal) buffer = buffer
buffer_after (Ok page) buffer = buffers.written page buffer
