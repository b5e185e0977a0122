use Rattle.std.proofs.Common.{◌≡◌, ◌+◌, ◌≤◌, ◌++◌, length, drop, sym, ap, ◌∙◌, arith, length-append}
use Rattle.std.proofs.lemmas.List.{at_drop_more}
use Rattle.octets.specs.Buffers.{over}
use Rattle.octets.proofs.Puts.{over-over}
use Rattle.lines.specs.Views.{line_text, lines_then}
use Rattle.lines.proofs.Pieces.{put_more}
use Rattle.lines.proofs.written.put_message.Goals as goal

pub loop-line-2-preserved : goal.loop-line-2-preserved
loop-line-2-preserved c =
    let i = c.loop-line-2.invariant in
    let k = c.loop-line-2.line-index in
    let at = c.loop-line-2.at in
    let out = c.loop-line-2.out in
    let lines = c.args.lines.now in
    let body = c.args.body.now in
    let l = c.line-item-in-loop-line-2.result in
    let rest = lines_then (drop (k + 1) lines) body in
    let text : lines_then (drop k lines) body ≡ line_text l ++ rest = at_drop_more (λ ls. lines_then ls body) lines k l c.loop-line-2-test.true ∙ ap (λ x. line_text x ++ rest) (sym c.line-item-in-loop-line-2.is) in
    let long = ap length text ∙ length-append (line_text l) rest in
    let fits : at + length (line_text l) ≤ length out = omega (arith, i.1, i.2, long) in
    let more = put_more at c.in_ok-at.at out c.put_from.new.out (line_text l) _ c.pieces-in-loop-line-2.ensures fits c.in_ok-at.ensures.answer c.put_from.ensures.after in (
      i.0 ∙ ap (over at out) text ∙ sym (over-over at out (line_text l) rest fits) ∙ (λ j. over (sym more.0 j) (sym more.1 j) rest),
      omega (arith, i.1, long, more.0),
      i.2,
    )
