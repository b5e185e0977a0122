use Rattle.std.proofs.Common.{◌≡◌, ◌+◌, ◌-◌, ◌≤◌, length, get_or, drop, sym, ap, ◌∙◌, arith}
use borrow.Rule.Slice.PartMut.{put_mid}
use Rattle.octets.specs.Buffers.{over}
use Rattle.octets.proofs.Puts.{nil, text_of, over-more, text_more, text_long}
use Rattle.octets.proofs.pieces.put_from.Goals as goal

pub loop-p-preserved : goal.loop-p-preserved
loop-p-preserved c =
    let i = c.loop-p.invariant in
    let p = (get_or c.args.pieces.now c.loop-p.p-index nil).now in
    let t = text_of (drop (c.loop-p.p-index + 1) c.args.pieces.now) in
    let long = text_long _ _ c.loop-p-test.true in
    let k : length p ≡ c.loop-p.at + length p - c.loop-p.at = omega arith in
    let h : c.loop-p.at + length p ≤ length c.loop-p.out = omega (arith, i.1, i.2, long) in (
      i.0 ∙ ap (over c.loop-p.at c.loop-p.out) (text_more _ _ c.loop-p-test.true) ∙ sym (over-more c.loop-p.at c.loop-p.out p t h) ∙ (λ j. over (c.loop-p.at + length p) (put_mid c.loop-p.at (k j) c.loop-p.out (sym c.copy_from_slice.ensures.after j)) t),
      omega (arith, i.1, long),
      i.2,
    )
