use Rattle.loading.proofs.Beginning.{add-fresh}
use Rattle.loading.proofs.folder.load_one.Goals as goal

pub returns-in_err-map_err : goal.returns-in_err-map_err
returns-in_err-map_err c = add-fresh c.args.servers.now c.add.new.self c.args.n _ c.add.ensures.after

pub returns : goal.returns
returns c = add-fresh c.args.servers.now c.add.new.self c.args.n _ c.add.ensures.after
