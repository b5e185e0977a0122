use Rattle.std.proofs.Common.{◌++◌, codes, decimal, Option, sym, refl, subst}
use Rattle.bounded.specs.Numbers.{number_of}
use Rattle.browser.specs.declared.values.Out.{Out}
use Rattle.browser.specs.Values.{outs_of, what_of, out_of}
use Rattle.book.specs.Lines.{what_text, out_text, outs_text}
use Rattle.book.specs.Putting.{Puts}
use Rattle.book.proofs.Putting.{puts_then, puts_last}
use Rattle.book.proofs.write.out.Goals as goal

pub returns-in-Some-clause-puts : goal.returns-in-Some-clause-puts
returns-in-Some-clause-puts c =
    let o = c.in-Some.o in
    subst (λ (x : Option Out). Puts c.args.at (outs_text (outs_of x)) c.args.room.now c.what.result c.what.new.room) (sym c.in-Some.is)
    (puts_last _ _ (out_text (out_of o)) _ _
    (puts_then _ _ _ (codes " | " ++ decimal (number_of o.from)) _ (what_text (number_of o.to) (what_of o.what)) _ _ _ refl c.site-next.ensures c.what.ensures.puts))
