use Rattle.windows.proofs.Same.{decides_by}
use Rattle.compare.proofs.Picked.{keep_both}
use Rattle.compare.proofs.let_out.same_outs.Goals as goal

pub returns : goal.returns
returns g c = λ f h.
    decides_by _ _ _ _ _
    (keep_both f _ _ _ _ (c.pick.ensures f h) (c.pick-2.ensures f h))
    (keep_both f _ _ _ _ (c.pick-3.ensures f h) (c.pick-4.ensures f h))
    c.same_lists.ensures
