use Rattle.std.proofs.Common.{length}
use Rattle.storage.specs.Tables.{table_of}
use Rattle.pipes.specs.Serving.{Served}
use Rattle.pipes.proofs.serve.serve.Given as goal

abbrev pub invariant-loop : goal.invariant-loop
invariant-loop g l = Served g.C.Carrier.carries (length l.initial.answer) (table_of l.table) l.initial.servers l.servers
