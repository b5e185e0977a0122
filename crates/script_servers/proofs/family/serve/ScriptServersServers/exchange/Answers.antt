use Rattle.std.proofs.Common.{length, ap, ◌∙◌}
use Rattle.servers.specs.Answering.{fitting}
use Rattle.script_servers.proofs.Families.{family_long, served-answer, served_states}
use Rattle.script_servers.proofs.Texts.{written-within, written-front}
use Rattle.script_servers.proofs.family.serve.ScriptServersServers.exchange.Goals as goal

pub returns : goal.returns
returns c =
    let self = c.args.self.now in
    let room = c.args.room.now in
    let there = family_long self _ c.if-site-ge16.false in
    let served = c.serve.ensures in
    record {
      within = written-within _ room _ _ served.count served.room;
      answer = written-front _ room _ _ served.count served.room ∙ ap (fitting (length room)) (served-answer _ _ _ c.args.request.now _ there c.index_mut.ensures.value);
      after = served_states _ _ _ c.args.request.now _ there c.index_mut.ensures.value c.serve.new.self served.after;
    }
