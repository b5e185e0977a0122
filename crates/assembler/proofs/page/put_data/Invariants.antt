use Rattle.std.proofs.Common.{◌≡◌, ◌+◌, ◌*◌, ◌≤◌, take, drop}
use Rattle.script_lines.specs.Reading.{data_of}
use Rattle.assembler.specs.Assembled.{data_rows, added}
use Rattle.assembler.proofs.page.put_data.Given as goal

-- what is still to be added
abbrev pub invariant-loop-i : goal.invariant-loop-i
invariant-loop-i l =
    (added (take l.from l.initial.body) l.line (data_rows l.d.place l.d.x l.d.y (data_of l.d)) ≡ added (take l.at l.body) l.line (data_rows (l.d.place + l.i) l.d.x l.d.y (drop l.i (data_of l.d))))
    × (l.at ≡ l.from + 24 * l.i)
    × (l.at ≤ 16000)
