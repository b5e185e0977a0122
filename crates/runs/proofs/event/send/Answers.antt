use Rattle.std.proofs.Common.{length, sym, subst}
use Rattle.browser.specs.Ends.{request_of}
use Rattle.browser.specs.Parts.{sites_in}
use Rattle.runs.specs.Events.{sent}
use Rattle.runs.proofs.Sending.{AtFront, sent_front}
use Rattle.runs.proofs.event.send.Goals as goal

pub returns : goal.returns
returns c =
    let p = c.args.pending.now in
    let table = sites_in p.browser in
    let q = request_of p in
    let room = c.args.room.now in
    let f = subst (λ n. AtFront n c.request.new.room (sent (length room) table q)) (sym c.unwrap_or.ensures)
    (sent_front table q room c.request.new.room c.request.result c.request.ensures.count c.request.ensures.room) in
    record { within = f.within; bytes = f.bytes_so }
