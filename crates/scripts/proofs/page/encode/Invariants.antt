use Rattle.std.proofs.Common.{◌≡◌, ◌*◌, take}
use Rattle.std.specs.List.{flat_map, AllByRecursion}
use Rattle.scripts.specs.Page.{step_bytes}
use Rattle.scripts.proofs.Writing.{ReadBack}
use Rattle.scripts.proofs.page.encode.Given as goal

-- the steps so far are written, and each can be read back
abbrev pub invariant-loop-i : goal.invariant-loop-i
invariant-loop-i l =
    (take (l.i * 8) l.out ≡ flat_map step_bytes (take l.i l.steps))
    × (AllByRecursion ReadBack (take l.i l.steps))
