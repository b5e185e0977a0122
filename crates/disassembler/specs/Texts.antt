-- The text of a page file.
use Rattle.std.specs.Prelude.{◌≡◌, ℕ, zero, suc, List, [], ◌∷◌, ◌++◌, length, take, drop, Ok, Err, Option, Result}
use Rattle.octets.specs.Buffers as buffers
use Rattle.scripts.specs.declared.Step.{Step}
use Rattle.scripts.specs.declared.Unreadable.{Unreadable}
use Rattle.scripts.specs.Page.{page_in}
use Rattle.assembler.specs.Assembled.{assembled}
use Rattle.disassembler.specs.Lines.{line_then, row_in}

-- the line of the step that eight bytes are
abbrev pub row_line : List ℕ → List ℕ
row_line bs = line_then (row_in bs) (10 ∷ [])

-- the lines of so many steps of eight bytes
unfoldable pub rows_text : ℕ → List ℕ → List ℕ
rows_text zero bs = []
rows_text (suc n) bs = row_line (take 8 bs) ++ rows_text n (drop 8 bs)

-- the text of a page whose steps could be read
abbrev pub text_by : Result (List Step) Unreadable → List ℕ → Result (List ℕ) Unreadable
text_by (Err fault) bs = Err fault
text_by (Ok steps) bs = Ok (rows_text (length steps) (drop 8 bs))

-- the text of a page file, or why it cannot be read
abbrev pub disassembled : List ℕ → Result (List ℕ) Unreadable
disassembled bs = text_by (page_in bs) bs

-- how many bytes were written to a buffer: none if the text has no room
abbrev pub size_in : Result (List ℕ) Unreadable → List ℕ → Result (Option ℕ) Unreadable
size_in (Err fault) buffer = Err fault
size_in (Ok text) buffer = Ok (buffers.count text buffer)

-- a buffer after the text was written to its front; as it was if there is none, or it has no room
abbrev pub buffer_after : Result (List ℕ) Unreadable → List ℕ → List ℕ
buffer_after (Err fault) buffer = buffer
buffer_after (Ok text) buffer = buffers.written text buffer

-- what was disassembled is assembled to the same page file
abbrev pub AssemblesBack : Result (List ℕ) Unreadable → List ℕ → Type 0
AssemblesBack (Err fault) bs = Unit {0}
AssemblesBack (Ok text) bs = assembled text ≡ Ok bs
