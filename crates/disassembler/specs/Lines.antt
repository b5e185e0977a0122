-- The line of a step.
use Rattle.std.specs.Prelude.{ℕ, Bool, true, cond, ◌&&◌, List, [], ◌++◌, Some, None, codes, decimal, Option, ◌==◌, nat_le, nat_lt, slice_index}
use Rattle.scripts.specs.Page.{word}
use Rattle.script_lines.specs.declared.Row.{Row}
use Rattle.script_lines.specs.declared.forms.Form.{Form}
use Rattle.script_lines.specs.declared.forms.Tail.{Tail}
use Rattle.script_lines.specs.declared.forms.Tail.TheVariants as tail
use Rattle.script_lines.specs.Forms.{form_of}
use Rattle.script_lines.specs.Reading.{row_of}
use Rattle.disassembler.specs.declared.lines.Shown.{Shown}
use Rattle.disassembler.specs.declared.lines.Shown.TheVariants.{Nothing, Register, Number}
use Rattle.disassembler.specs.declared.lines.Parts.{Parts}

-- the mnemonic of a wait, by its number; none for others
abbrev pub call_name : ℕ → List ℕ
call_name number =
    cond (number == 0) (codes "wait")
    (cond (number == 1) (codes "ask")
    (cond (number == 2) (codes "say")
    (cond (number == 3) (codes "keep")
    (cond (number == 4) (codes "look")
    (cond (number == 5) (codes "open") [])))))

-- the mnemonic of a step, by its kind and its number; none for others
abbrev pub name_by : ℕ → ℕ → List ℕ
name_by kind number =
    cond (kind == 0) (codes "const")
    (cond (kind == 1) (codes "move")
    (cond (kind == 2) (codes "sum")
    (cond (kind == 3) (codes "product")
    (cond (kind == 4) (codes "equal")
    (cond (kind == 5) (codes "less")
    (cond (kind == 6) (codes "jump")
    (cond (kind == 7) (codes "jump_if")
    (cond (kind == 8) (codes "load")
    (cond (kind == 9) (codes "store")
    (cond (kind == 10) (call_name number) []))))))))))

-- the mnemonic of a step
unfoldable pub name_of : Row → List ℕ
name_of row = name_by row.kind row.number

-- what stands before the digits of an operand
abbrev pub mark_of : Shown → List ℕ
mark_of Nothing = []
mark_of (Register n) = codes " r"
mark_of (Number n) = codes " "

-- the digits of an operand
abbrev pub digits_of : Shown → List ℕ
digits_of Nothing = []
digits_of (Register n) = decimal n
digits_of (Number n) = decimal n

-- an operand, and what follows it
abbrev pub shown_then : Shown → List ℕ → List ℕ
shown_then x rest = mark_of x ++ (digits_of x ++ rest)

-- a line in its parts, and what follows it
abbrev pub parts_then : Parts → List ℕ → List ℕ
parts_then p rest = p.word.now ++ shown_then p.kind (shown_then p.a (shown_then p.b (shown_then p.c (shown_then p.number rest))))

-- a register of a step, if its mnemonic takes one there
abbrev pub slot : Bool → ℕ → Shown
slot wanted n = cond wanted (Register n) Nothing

-- whether a place of a step can be written so: a register that there is, or 0 where none is taken
abbrev pub slot_fits : Bool → ℕ → Bool
slot_fits wanted n = cond wanted (nat_le n 31) (n == 0)

-- the number of a step, if it is an operand
abbrev pub tail_shown : Tail → ℕ → Shown
tail_shown (tail.Fixed fixed) n = Nothing
tail_shown tail.Number n = Number n
tail_shown tail.Target n = Number n

-- whether the number of a step is an operand, or the one that its mnemonic has
abbrev pub tail_fits : Tail → ℕ → Bool
tail_fits (tail.Fixed fixed) n = n == fixed
tail_fits tail.Number n = true
tail_fits tail.Target n = true

-- whether a mnemonic can say a step
abbrev pub fits : Form → Row → Bool
fits form row =
    (row.kind == form.kind && tail_fits form.tail row.number)
    && (slot_fits (nat_lt 0 form.registers) row.a
    && (slot_fits (nat_lt 1 form.registers) row.b && slot_fits (nat_lt 2 form.registers) row.c))

-- a step by its mnemonic, and what follows it
abbrev pub plain_then : List ℕ → Form → Row → List ℕ → List ℕ
plain_then name form row rest =
    name
    ++ shown_then (slot (nat_lt 0 form.registers) row.a) (shown_then (slot (nat_lt 1 form.registers) row.b)
    (shown_then (slot (nat_lt 2 form.registers) row.c) (shown_then (tail_shown form.tail row.number) rest)))

-- a raw step, and what follows it
abbrev pub raw_then : Row → List ℕ → List ℕ
raw_then row rest =
    codes "step"
    ++ shown_then (Number row.kind) (shown_then (Number row.a) (shown_then (Number row.b)
    (shown_then (Number row.c) (shown_then (Number row.number) rest))))

-- a step by a mnemonic that can say it, or raw
abbrev pub by_form : Option Form → Row → List ℕ → List ℕ
by_form None row rest = raw_then row rest
by_form (Some form) row rest = cond (fits form row) (plain_then (name_of row) form row rest) (raw_then row rest)

-- the line of a step, and what follows it
unfoldable pub line_then : Row → List ℕ → List ℕ
line_then row rest = by_form (form_of (name_of row)) row rest

-- the step that eight bytes are
abbrev pub row_in : List ℕ → Row
row_in bs =
    row_of (slice_index bs 0) (slice_index bs 1) (slice_index bs 2) (slice_index bs 3)
    (word (slice_index bs 4) (slice_index bs 5) (slice_index bs 6) (slice_index bs 7))
