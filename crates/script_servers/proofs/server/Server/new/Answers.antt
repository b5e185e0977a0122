use Rattle.std.proofs.Common.{replicate, ap}
use Rattle.machine.specs.declared.Machine.{Machine}
use Rattle.machine.specs.Script.{state}
use Rattle.scripts.specs.Scripts.{steps_of}
use Rattle.script_servers.proofs.server.Server.new.Goals as goal

pub returns : goal.returns
returns c = ap (λ (m : Machine). state m (replicate 4096 0) (steps_of c.args.script)) c.new.ensures
