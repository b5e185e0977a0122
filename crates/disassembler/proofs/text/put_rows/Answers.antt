use Rattle.std.proofs.Common.{◌≡◌, ◌/◌, length, sym, ap, ◌∙◌, arith}
use Rattle.std.specs.List.{flat_map}
use Rattle.std.specs.Simd.{first_chunks}
use Rattle.disassembler.specs.Texts.{row_line}
use Rattle.disassembler.proofs.Sizes.{line_short}
use Rattle.disassembler.proofs.Rows.{rows_are, rows_more, rows_room}
use Rattle.disassembler.proofs.text.put_rows.Goals as goal

pub loop-bytes-init : goal.loop-bytes-init
loop-bytes-init c =
    let body = c.args.body.now in
    let n : length body / 8 ≡ c.args.steps = omega (arith, c.requires.1.0) in
    (sym (ap (flat_map row_line) c.as_chunks.ensures.front ∙ (λ i. flat_map row_line (first_chunks 8 (n i) body)) ∙ rows_are c.args.steps body), omega arith)

pub returns-in_default : goal.returns-in_default
returns-in_default c =
    let short = line_short c.row_in.result (record { kind = omega arith; a = omega arith; b = omega arith; c = omega arith; number = omega arith }) in
    rows_room c.loop-bytes.at c.row_in.result c.loop-bytes.out _ c.parts_of.ensures (omega (arith, short, c.loop-bytes.invariant.1, c.as_chunks.ensures.front_len)) c.in_default.ensures.answer

pub loop-bytes-preserved : goal.loop-bytes-preserved
loop-bytes-preserved c =
    let short = line_short c.row_in.result (record { kind = omega arith; a = omega arith; b = omega arith; c = omega arith; number = omega arith }) in
    let h = rows_more c.as_chunks.result.0.now c.loop-bytes.bytes-index c.loop-bytes.at c.in-Some.next c.row_in.result _ c.loop-bytes.out _ _ _ c.loop-bytes-test.true c.row_in.ensures c.parts_of.ensures (omega (arith, c.loop-bytes.invariant.1, c.as_chunks.ensures.front_len)) c.in-Some.ensures.answer c.put.ensures.after c.loop-bytes.invariant.0 in
    (h.0, omega (arith, h.1, short, c.loop-bytes.invariant.1))
