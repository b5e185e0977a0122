use Rattle.script_servers.specs.Family.{states_of}
use Rattle.loading.specs.Fresh.{Fresh}
use Rattle.loading.proofs.folder.load.Given as goal

abbrev pub invariant-loop-n : goal.invariant-loop-n
invariant-loop-n l = Fresh l.sites (states_of l.servers)
