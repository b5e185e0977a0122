use Rattle.std.proofs.Common.{sym, refl, ◌∙◌, append-nil, arith, length-set}
use Rattle.std.proofs.lemmas.Fmt.{length-decimal-le}
use Rattle.octets.proofs.Digits.{digit_more, digit_last, digit_room}
use Rattle.octets.proofs.small.SmallText.digits.Goals as goal

pub loop-m-init : goal.loop-m-init
loop-m-init c = (sym (append-nil _), omega (arith, length-decimal-le 20 c.args.n (omega arith) (omega arith) (omega arith)), omega arith, refl, omega arith)

pub loop-m-preserved : goal.loop-m-preserved
loop-m-preserved c =
    let i = c.loop-m.invariant in
    let s = digit_more c.args.n c.loop-m.m c.loop-m.at _ c.loop-m.bytes i.0 i.1 i.2 i.3 (omega arith) (omega arith) refl in
    (s.0, s.1, omega arith, length-set _ _ _ ∙ i.3, omega arith)

pub returns : goal.returns
returns c =
    let i = c.loop-m.invariant in
    record {
      is = digit_last c.args.n c.loop-m.m c.loop-m.at _ c.loop-m.bytes i.0 i.1 i.2 i.3 (omega arith) refl;
      room = digit_room c.args.n c.loop-m.m c.loop-m.at 0 c.loop-m.bytes i.0 i.1 i.2 i.3 (omega arith);
    }
