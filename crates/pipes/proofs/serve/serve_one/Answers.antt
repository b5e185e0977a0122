use Rattle.std.proofs.Common.{length}
use Rattle.addresses.specs.Views.{site_of}
use Rattle.storage.specs.Tables.{table_of}
use Rattle.pipes.proofs.Serving.{served-once}
use Rattle.pipes.proofs.serve.serve_one.Goals as goal

pub returns-in_err-count : goal.returns-in_err-count
returns-in_err-count g c = served-once g.C.Carrier.carries (length c.args.answer.now) (table_of c.args.table.now) (site_of c.in_ok-head.head.site) c.args.servers.now c.respond.new.servers c.respond.ensures.served

pub returns : goal.returns
returns g c = served-once g.C.Carrier.carries (length c.args.answer.now) (table_of c.args.table.now) (site_of c.in_ok-head.head.site) c.args.servers.now c.respond.new.servers c.respond.ensures.served
