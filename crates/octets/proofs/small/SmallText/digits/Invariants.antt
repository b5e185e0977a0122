use Rattle.std.proofs.Common.{◌≡◌, ◌<◌, ◌≤◌, ◌++◌, length, drop, decimal}
use Rattle.octets.proofs.small.SmallText.digits.Given as goal

abbrev pub invariant-loop-m : goal.invariant-loop-m
invariant-loop-m l = (decimal l.n ≡ decimal l.m ++ drop l.at l.bytes) × (length (decimal l.m) < l.at) × (l.at ≤ 21) × (length l.bytes ≡ 21) × (l.m ≤ l.n)

abbrev pub decreases-loop-m : goal.decreases-loop-m
decreases-loop-m l = l.m
