use Rattle.std.proofs.Common.{◌≡◌, ◌≤◌, drop}
use Rattle.octets.specs.Numbers.{number}
use Rattle.octets.proofs.decimal.read_number.Given as goal

abbrev pub invariant-loop-d : goal.invariant-loop-d
invariant-loop-d l = (number l.max 0 l.s ≡ number l.max l.n (drop l.d-index l.s)) × (l.n ≤ l.max)
