use Rattle.bounded.specs.Numbers.{number_of}
use Rattle.pages.specs.Promise.{only}
use Rattle.compare.proofs.Sites.{SoFar}
use Rattle.compare.proofs.by_site.first_apart.Given as goal

abbrev pub invariant-loop-n : goal.invariant-loop-n
invariant-loop-n g l = SoFar (only (number_of l.but)) (g.T.BySite.values l.one) (g.T.BySite.values l.two) l.n
