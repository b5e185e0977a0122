use Rattle.std.proofs.Common.{◌≡◌, ◌*◌, ◌≤◌, ◌++◌, take, drop}
use Rattle.std.specs.List.{flat_map}
use Rattle.disassembler.specs.Texts.{row_line, rows_text}
use Rattle.disassembler.proofs.text.put_rows.Given as goal

abbrev pub invariant-loop-bytes : goal.invariant-loop-bytes
invariant-loop-bytes l =
    (rows_text l.steps l.body ≡ take l.at l.out ++ flat_map row_line (drop l.bytes-index l.rows))
    × (l.at ≤ 40 * l.bytes-index)
