use Rattle.std.proofs.Common.{ℕ, List, replicate, subst, arith}
use lib.ListN.{length-replicate}
use Rattle.book.specs.Lines.{line_text}
use Rattle.book.specs.Records.{entry_of}
use Rattle.sessions.proofs.Fronts.{front}
use Rattle.sessions.proofs.written.put_line.Goals as goal

pub returns : goal.returns
returns g c =
    subst (λ (z : List ℕ). g.S.Sink.puts c.args.sink.now z c.put.result c.put.new.self)
    (front (line_text c.args.n (entry_of c.args.noted.now)) (replicate 17000 0) c.write_line.new.room c.in-Some.len (omega (arith, length-replicate {A = ℕ} 17000 0)) c.in-Some.ensures.answer c.in-Some.ensures.after)
    c.put.ensures
