use Rattle.std.proofs.Common.{[], ◌∷◌, ◌++◌, refl, ap, ◌∙◌}
use Rattle.octets.specs.Buffers.{written_from, count_from}
use Rattle.settings.specs.Unwritten.{line_of, left_of}
use Rattle.settings.proofs.Unwriting.{put_line}
use Rattle.settings.proofs.write.put_lines.Goals as goal

pub loop-line-preserved : goal.loop-line-preserved
loop-line-preserved c =
    let line = line_of c.in-Some.line in
    let at = c.loop-line.at in
    let out = c.loop-line.out in
    let h = put_line (left_of c.loop-line.left) (left_of c.next.new.self) line (line ++ (10 ∷ [])) c.in-Some.ensures.is c.next.ensures.left refl at c.in_ok-at.at out c.put_from.new.out
    (c.in_ok-at.ensures.answer ∙ ap (λ t. count_from at t out) c.pieces.ensures)
    (c.put_from.ensures.after ∙ ap (λ t. written_from at t out) c.pieces.ensures) in
    (c.loop-line.invariant.0 ∙ h.0, h.1 ∙ c.loop-line.invariant.1, c.loop-line.invariant.2)
