use Rattle.std.proofs.Common.{refl, rules, tests}
use Rattle.std.proofs.lemmas.Iterator.{cases_from_all, YieldsList-from_range}
use Rattle.bounded.specs.Numbers.{number_of}
use Rattle.pages.specs.Promise.{only}
use Rattle.compare.proofs.Sites.{Same, Other, all_alike}
use Rattle.compare.proofs.world.same_servers.Goals as goal

pub returns : goal.returns
returns g c =
    let h = only (number_of c.args.but) in
    let f = g.S.Servers.states c.args.one.now in
    let k = g.S.Servers.states c.args.two.now in
    all_alike h f k c.all.result (cases_from_all _ _ _ (Same h f k) (Other h f k) c.all.ensures.ran (YieldsList-from_range 0 16 16 (cc) refl) (λ x q k. search (rules, tests)) (λ x q k. search (rules, tests)))
