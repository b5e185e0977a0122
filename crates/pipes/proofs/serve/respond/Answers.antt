use Rattle.std.proofs.Common.{take, Some, ap, ◌∙◌}
use Rattle.pages.specs.Browser.{nth}
use Rattle.storage.specs.Tables.{table_of}
use Rattle.pipes.proofs.serve.respond.Goals as goal

pub returns-clause-served : goal.returns-clause-served
returns-clause-served g c =
    let named = ap (λ n. nth n (table_of c.args.table.now)) c.number.ensures.is ∙ c.in-Some-number_of.ensures.is in (
      Some (record { site = c.number.result; request = take c.in-Some.len c.read_bytes.new.room; answer = take c.exchange.result c.exchange.new.room }),
      (c.exchange.ensures.exchange, named),
    )
