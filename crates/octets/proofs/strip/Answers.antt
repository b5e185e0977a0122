use Rattle.std.proofs.lemmas.Slice.Eq.{strip_prefix_is}
use Rattle.octets.proofs.Fronts.{after_is}
use Rattle.octets.proofs.strip.Goals as goal
use Rattle.std.proofs.lemmas.Bool.Decides.{Decides-eqb}

pub returns : goal.returns
returns c = after_is c.args.prefix.now c.args.s.now _ (strip_prefix_is Decides-eqb c.args.s.now c.args.prefix.now _ c.strip_prefix.ensures.cases)
