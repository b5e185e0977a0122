use Rattle.std.proofs.Common.{◌≡◌, ◌-◌, ◌*◌, ◌≤◌, length}
use Rattle.std.specs.Slice.Iter.{chunks_exact_rest, chunks_exact_size}
use Rattle.bounded.specs.Fixed.{items_of}
use Rattle.scripts.specs.Page.{steps_in}
use Rattle.scripts.proofs.Reading.{onto}
use Rattle.scripts.proofs.script.Script.decode.Given as goal

-- what is read, and then what is left to read, is what the whole body has
abbrev pub invariant-loop-bytes : goal.invariant-loop-bytes
invariant-loop-bytes l =
    let steps = items_of l.script.steps in
    let rest = chunks_exact_rest l.bytes-iterator in
    (goal.iterator-loop-bytes).can_next l.bytes-iterator × (goal.iterator-loop-bytes).is_finite l.bytes-iterator
    × (chunks_exact_size l.bytes-iterator ≡ 8) × (length steps ≤ l.count) × (length rest ≡ (l.count - length steps) * 8)
    × (onto steps (steps_in (l.count - length steps) rest) ≡ steps_in l.count l.body)
