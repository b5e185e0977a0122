use Rattle.loading.proofs.Beginning.{new_fresh}
use Rattle.loading.proofs.folder.load.Goals as goal

pub loop-n-init : goal.loop-n-init
loop-n-init c = new_fresh c.in_ok-servers.servers c.args.sites.now c.in_ok-servers.ensures

pub loop-n-preserved : goal.loop-n-preserved
loop-n-preserved c = c.load_one.ensures c.args.sites.now c.loop-n.invariant
