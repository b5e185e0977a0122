use Rattle.std.proofs.Common.{◌≡◌, ◌-◌}
use Rattle.addresses.specs.Address.{labels}
use Rattle.addresses.proofs.parts.is_host.Given as goal

abbrev pub invariant-loop-k : goal.invariant-loop-k
invariant-loop-k l = labels 8 l.s ≡ labels (8 - l._k) l.rest
