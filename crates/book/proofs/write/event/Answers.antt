use Rattle.std.proofs.Common.{◌++◌, codes, decimal, sym, subst}
use Rattle.bounded.specs.Numbers.{number_of}
use Rattle.bounded.specs.Texts.{text_of}
use Rattle.book.specs.declared.record.Event.{Event}
use Rattle.book.specs.Records.{event_of}
use Rattle.book.specs.Lines.{event_text}
use Rattle.book.specs.Putting.{Puts}
use Rattle.book.proofs.Putting.{puts_bytes}
use Rattle.book.proofs.write.event.Goals as goal

pub returns-in-Opening-clause-puts : goal.returns-in-Opening-clause-puts
returns-in-Opening-clause-puts c =
    let text = c.as_slice.result.now in
    subst (λ (e : Event). Puts c.args.at (event_text (event_of e)) c.args.room.now c.bytes.result c.bytes.new.room) (sym c.in-Opening.is)
    (puts_bytes _ _ _ (codes " open " ++ decimal (number_of c.in-Opening.to)) text (text_of c.in-Opening.path) _ _ _ c.as_slice.ensures.is c.site-next.ensures c.bytes.ensures.puts)
