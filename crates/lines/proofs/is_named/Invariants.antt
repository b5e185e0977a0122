use Rattle.std.proofs.Common.{◌≡◌, ◌-◌}
use Rattle.lines.specs.Lines.{among, names_of}
use Rattle.lines.proofs.is_named.Given as goal

abbrev pub invariant-loop-i : goal.invariant-loop-i
invariant-loop-i l = among l.name (names_of l.k l.s) ≡ among l.name (names_of (l.k - l._i) l.rest)
