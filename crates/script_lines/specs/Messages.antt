-- What was expected, in words.
use Rattle.std.specs.Prelude.{ℕ, List, codes}
use Rattle.script_lines.specs.declared.Expected.{Expected}
use Rattle.script_lines.specs.declared.Expected.TheVariants as expected
use Rattle.script_lines.specs.declared.Operand.{Operand}
use Rattle.script_lines.specs.declared.Operand.TheVariants.{Register, Number, Byte, Kind, Call, Place}

-- An operand.
abbrev pub operand_text : Operand → List ℕ
operand_text Register = codes "a register, `r0` to `r31`"
operand_text Number = codes "a number up to 4294967295"
operand_text Byte = codes "a number up to 255"
operand_text Kind = codes "the kind of a step, up to 10"
operand_text Call = codes "what a wait asks for, up to 5"
operand_text Place = codes "a place of the memory, up to 4095"

-- An operand, or something else.
abbrev pub expected_text : Expected → List ℕ
expected_text expected.Mnemonic = codes "a mnemonic, or a label and `:`"
expected_text (expected.Operand operand) = operand_text operand
expected_text expected.Target = codes "a number or the name of a label"
expected_text expected.Bytes = codes "a text in quotes, or hexadecimal digits in pairs"
expected_text expected.Memory = codes "bytes that end below place 4096"
expected_text expected.LineEnd = codes "the end of the line"
expected_text expected.NewLabel = codes "a name that no line above has"
expected_text expected.KnownLabel = codes "the name of a label of this text"
expected_text expected.FewerSteps = codes "at most 2,000 steps"
