use Rattle.std.proofs.Common.{◌≡◌, ◌*◌, ◌<◌, length, take, ◌∙◌, subst, arith, length-drop, length-take}
use Rattle.std.specs.List.{AllByRecursion}
use Rattle.std.proofs.lemmas.List.{take_all}
use Rattle.std.proofs.lemmas.Slice.{take-put_mid}
use Rattle.std.proofs.ByRecursion.{All-more}
use Rattle.scripts.proofs.Writing.{ReadBack, joined_step, back_all}
use Rattle.scripts.proofs.page.encode.Goals as goal

pub loop-i-preserved : goal.loop-i-preserved
loop-i-preserved c =
    let within : c.loop-i.i < length c.args.steps.now = omega arith in
    let new = c.copy_from_slice.ensures.after ∙ c.step.ensures.bytes in
    let eight : length c.copy_from_slice.new.self ≡ 8 = omega (arith, simp (length-take, length-drop) at c.copy_from_slice.ensures.len) in (
      take-put_mid (c.loop-i.i * 8) _ c.loop-i.out c.copy_from_slice.new.self _ (omega arith) (omega arith)
          ∙ joined_step _ _ _ _ _ within c.loop-i.invariant.0 new,
      All-more ReadBack _ _ _ within c.loop-i.invariant.1 c.step.ensures.back,
    )

pub returns-clause-back : goal.returns-clause-back
returns-clause-back c =
    let whole : take c.loop-i.i c.args.steps.now ≡ c.args.steps.now = take_all _ _ (omega arith) in
    back_all _ (subst (AllByRecursion ReadBack) whole c.loop-i.invariant.1)
