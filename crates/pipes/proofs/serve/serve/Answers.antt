use Rattle.pipes.proofs.Serving.{served-next}
use Rattle.pipes.proofs.serve.serve.Goals as goal

pub returns-in-Err : goal.returns-in-Err
returns-in-Err g c = served-next g.C.Carrier.carries _ _ _ c.args.servers.now c.loop.servers c.serve_one.new.servers c.loop.auto.answer c.loop.invariant c.serve_one.ensures

pub loop-preserved : goal.loop-preserved
loop-preserved g c = served-next g.C.Carrier.carries _ _ _ c.args.servers.now c.loop.servers c.serve_one.new.servers c.loop.auto.answer c.loop.invariant c.serve_one.ensures
