use Rattle.std.proofs.Common.{◌≤◌, ◌++◌, length, drop, Some, sym, ap, ◌∙◌, zero-add, arith}
use Rattle.std.proofs.lemmas.Bool.{cond-true, le-leb}
use Rattle.book.specs.Records.{entry_of}
use Rattle.book.specs.Lines.{line_text}
use Rattle.book.proofs.Short.{line_short}
use Rattle.book.proofs.Back.{line_back}
use Rattle.book.proofs.write.write_line.Goals as goal

pub returns : goal.returns
returns c =
    let n = c.args.n in
    let e = entry_of c.args.noted.now in
    let t = line_text n e in
    let range = c.line.ensures.range in
    let short = line_short n e c.ranges.n.fits range in
    let room : 17000 ≤ length c.args.room.now = c.if-room-lt-LINE_ROOM.false in
    let puts = c.line.ensures.puts (omega arith) in
    let fits = le-leb 17000 (length c.args.room.now) room in
    record {
      answer = ap Some (puts.0 ∙ zero-add (length t)) ∙ sym (cond-true _ _ _ fits);
      after = puts.1 ∙ ap (λ k. t ++ drop k c.args.room.now) (zero-add (length t)) ∙ sym (cond-true _ _ _ fits);
      short = omega (arith, puts.0);
      back = λ rest. line_back n e rest c.ranges.n.fits range;
    }
