-- One line of the text form.
use Rattle.std.specs.Prelude.{ℕ, ◌+◌, ◌-◌, ◌*◌, ◌%◌, Bool, true, cond, not, ◌&&◌, ◌||◌, List, [], ◌∷◌, length, map, take, Some, None, Ok, Err, codes, Option, Result, ◌==◌, nat_le, nat_lt, slice_index}
use Rattle.std.specs.Borrow.{Bor}
use Rattle.std.specs.List.{list_all}
use Rattle.std.specs.Str.{bytes_eq}
use Rattle.octets.specs.declared.Class.TheVariants.{Visible}
use Rattle.octets.specs.Classes.{has}
use Rattle.octets.specs.Fronts.{after, front, past}
use Rattle.script_lines.specs.declared.Row.{Row}
use Rattle.script_lines.specs.declared.Line.{Line}
use Rattle.script_lines.specs.declared.Line.TheVariants.{Nothing, Label, Step, Jump, Bytes}
use Rattle.script_lines.specs.declared.Data.{Data}
use Rattle.script_lines.specs.declared.Fault.{Fault}
use Rattle.script_lines.specs.declared.Expected.TheVariants as expected
use Rattle.script_lines.specs.declared.Expected.TheVariants.{Mnemonic, Target, Memory, LineEnd}
use Rattle.script_lines.specs.declared.Operand.{Operand}
use Rattle.script_lines.specs.declared.Operand.TheVariants.{Number, Byte, Kind, Call, Place}
use Rattle.script_lines.specs.declared.forms.Form.{Form}
use Rattle.script_lines.specs.declared.forms.Tail.{Tail}
use Rattle.script_lines.specs.declared.forms.Tail.TheVariants as tail
use Rattle.script_lines.specs.declared.Source.{Source}
use Rattle.script_lines.specs.declared.Source.TheVariants.{Text, Hex}
use Rattle.script_lines.specs.Words.{hex_value, number_in, is_name}
use Rattle.script_lines.specs.Operands.{skipped, word_in, rest_in, fault_at, and_on, operand_in, register_if}
use Rattle.script_lines.specs.Forms.{form_of}

-- what a line stands for: nothing, a name, a step, a step to a name, or bytes for the memory
pub data Meaning : Type 0 where
  nothing : Meaning
  label : (name : List ℕ) → Meaning
  step : (row : Row) → Meaning
  jump : (row : Row) (name : List ℕ) (left : ℕ) → Meaning
  bytes : (place x y : ℕ) (bs : List ℕ) → Meaning

-- the byte that two hexadecimal digits write
abbrev pub pair_value : ℕ → ℕ → ℕ
pair_value d e = (hex_value d * 16 + hex_value e) % 256

-- two hexadecimal digits for each byte
abbrev pub pairs : List ℕ → List ℕ
pairs [] = []
pairs (d ∷ []) = []
pairs (d ∷ e ∷ ds) = pair_value d e ∷ pairs ds

-- the byte that a pair of digits writes
abbrev pub pair_byte : List ℕ → ℕ
pair_byte p = pair_value (slice_index p 0) (slice_index p 1)

-- the bytes that a text or pairs of digits stand for
abbrev pub bytes_of : Source → List ℕ
bytes_of (Text text) = text.now
bytes_of (Hex ds) = map pair_byte ds.now

-- the bytes of data
abbrev pub data_of : Data → List ℕ
data_of d = bytes_of d.source

-- a line that was read, by the bytes that it refers to
abbrev pub meaning_of : Line → Meaning
meaning_of Nothing = nothing
meaning_of (Label name) = label name.now
meaning_of (Step row) = step row
meaning_of (Jump row name left) = jump row name.now left
meaning_of (Bytes d) = bytes d.place d.x d.y (data_of d)

-- what a reader of lines answers
abbrev pub line_read : Result Line Fault → Result Meaning Fault
line_read (Ok line) = Ok (meaning_of line)
line_read (Err fault) = Err fault

-- whether nothing but blanks and a comment is left
abbrev pub at_end : List ℕ → Bool
at_end s = length (skipped s) == 0 || slice_index (skipped s) 0 == 59

-- what the line stands for, if it ends here
abbrev pub ended_with : List ℕ → Meaning → Result Meaning Fault
ended_with s x = cond (at_end s) (Ok x) (Err (fault_at s LineEnd))

-- a step with another number
abbrev pub numbered : Row → ℕ → Row
numbered row n = record { kind = row.kind; a = row.a; b = row.b; c = row.c; number = n }

-- a target that is a number, or else the name of a label
abbrev pub by_number : Option ℕ → Row → List ℕ → Result Meaning Fault
by_number (Some n) row s = ended_with (rest_in s) (step (numbered row n))
by_number None row s =
    cond (is_name (word_in s)) (ended_with (rest_in s) (jump row (word_in s) (length (skipped s)))) (Err (fault_at s Target))

-- a step that goes to a target
abbrev pub target_in : Row → List ℕ → Result Meaning Fault
target_in row s = by_number (number_in (word_in s)) row s

-- the number of a step, after its registers
abbrev pub tail_line : Row → Tail → List ℕ → Result Meaning Fault
tail_line row (tail.Fixed n) s = ended_with s (step (numbered row n))
tail_line row tail.Number s = and_on (operand_in Number s) (λ n. ended_with n.1 (step (numbered row n.0)))
tail_line row tail.Target s = target_in row s

-- a step by its kind and its places
abbrev pub row_of : ℕ → ℕ → ℕ → ℕ → ℕ → Row
row_of kind a b c n = record { kind = kind; a = a; b = b; c = c; number = n }

-- a step by its mnemonic
abbrev pub step_line : Form → List ℕ → Result Meaning Fault
step_line form s =
    and_on (register_if (nat_lt 0 form.registers) s) (λ a.
    and_on (register_if (nat_lt 1 form.registers) a.1) (λ b.
    and_on (register_if (nat_lt 2 form.registers) b.1) (λ c.
    tail_line (row_of form.kind a.0 b.0 c.0 0) form.tail c.1)))

-- the last operand of a raw step: for a wait, what it asks for
abbrev pub last_operand : ℕ → Operand
last_operand kind = cond (kind == 10) Call Number

-- a raw step: its kind, its places and its number
abbrev pub raw_line : List ℕ → Result Meaning Fault
raw_line s =
    and_on (operand_in Kind s) (λ k.
    and_on (operand_in Byte k.1) (λ a.
    and_on (operand_in Byte a.1) (λ b.
    and_on (operand_in Byte b.1) (λ c.
    and_on (operand_in (last_operand k.0) c.1) (λ n.
    ended_with n.1 (step (row_of k.0 a.0 b.0 c.0 n.0)))))))

-- nothing but hexadecimal digits
abbrev pub has_hex : List ℕ → Bool
has_hex w = list_all (λ b. nat_lt (hex_value b) 16) w

-- digits in pairs
abbrev pub is_hex : List ℕ → Bool
is_hex w = (not (length w == 0) && length w % 2 == 0) && has_hex w

-- whether a byte is of a text in quotes
abbrev pub in_text : ℕ → Bool
in_text b = not (b == 34)

-- a text up to its second quote, and what follows
abbrev pub closed : Option (List ℕ) → List ℕ → Option (List ℕ × List ℕ)
closed None text = None
closed (Some rest) text = Some (text, rest)

-- the same, of what follows the first quote
abbrev pub quoted : List ℕ → Option (List ℕ × List ℕ)
quoted t = closed (after (codes "\"") (past in_text t)) (front in_text t)

-- a text after its first quote, or else a word of digits; and what follows
abbrev pub quoted_or : Option (List ℕ) → List ℕ → Option (List ℕ × List ℕ)
quoted_or (Some t) s = quoted t
quoted_or None s = cond (is_hex (front (has Visible) s)) (Some (pairs (front (has Visible) s), past (has Visible) s)) None

-- the bytes of data, and what follows
abbrev pub source_in : List ℕ → Option (List ℕ × List ℕ)
source_in s = quoted_or (after (codes "\"") s) s

-- the same of what a reader found
abbrev pub source_of : Source × Bor (List ℕ) → List ℕ × List ℕ
source_of p = (bytes_of p.0, p.1.now)

-- bytes from a place on, if they end within the memory
abbrev pub with_source : Option (List ℕ × List ℕ) → ℕ → ℕ → ℕ → List ℕ → Result Meaning Fault
with_source None place x y s = Err (fault_at s expected.Bytes)
with_source (Some p) place x y s =
    cond (nat_le (place + length p.0) 4096)
    (ended_with p.1 (bytes place x y p.0))
    (Err (fault_at s Memory))

-- the bytes of data, after the place and the registers
abbrev pub data_bytes : ℕ → ℕ → ℕ → List ℕ → Result Meaning Fault
data_bytes place x y s = with_source (source_in (skipped s)) place x y s

-- data: a place, two registers and bytes
abbrev pub data_line : List ℕ → Result Meaning Fault
data_line s =
    and_on (operand_in Place s) (λ p.
    and_on (register_if true p.1) (λ x.
    and_on (register_if true x.1) (λ y.
    data_bytes p.0 x.0 y.0 y.1)))

-- the name in a word that ends with `:`
abbrev pub label_in : List ℕ → Option (List ℕ)
label_in w =
    cond (is_name w && (nat_lt 1 (length w) && slice_index w (length w - 1) == 58)) (Some (take (length w - 1) w)) None

-- data or a raw step, if the line begins with one of these words
abbrev pub other_line : List ℕ → Result Meaning Fault
other_line l =
    cond (bytes_eq (word_in l) (codes "data")) (data_line (rest_in l))
    (cond (bytes_eq (word_in l) (codes "step")) (raw_line (rest_in l)) (Err (fault_at l Mnemonic)))

-- a step by its mnemonic, or another line
abbrev pub form_or : Option Form → List ℕ → Result Meaning Fault
form_or (Some form) l = step_line form (rest_in l)
form_or None l = other_line l

-- a label, or else a step or data
abbrev pub label_or : Option (List ℕ) → List ℕ → Result Meaning Fault
label_or (Some name) l = ended_with (rest_in l) (label name)
label_or None l = form_or (form_of (word_in l)) l

-- what a line stands for, or what was expected in it
unfoldable pub line_in : List ℕ → Result Meaning Fault
line_in l = cond (at_end l) (Ok nothing) (label_or (label_in (word_in l)) l)
