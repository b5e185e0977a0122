use Rattle.std.proofs.Common.{length, sym, refl, ap, arith}
use Rattle.disassembler.proofs.Pages.{page_ok}
use Rattle.disassembler.proofs.Whole.{back_of}
use Rattle.disassembler.proofs.text.disassemble.Goals as goal

pub put_rows-size-requires : goal.put_rows-size-requires
put_rows-size-requires c =
    let h = page_ok c.args.page.now _ (sym c.in_ok-script.ensures) in
    let same = ap length c.steps-steps.ensures.steps in
    (c.steps-steps.ensures.few, (omega (arith, h.0.size, same, c.split_at.ensures.back_len), refl))

pub returns-clause-back : goal.returns-clause-back
returns-clause-back c = back_of c.args.page.now (λ i. omega (arith, c.type_inv.page i))
