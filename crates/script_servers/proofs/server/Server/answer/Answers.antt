use Rattle.std.proofs.Common.{ap, ◌∙◌}
use Rattle.octets.specs.Buffers.{written}
use Rattle.answers.specs.Views.{content_of}
use Rattle.answers.specs.Written.{answer_text, can_write}
use Rattle.script_servers.specs.Replies.{text_by}
use Rattle.script_servers.specs.Rooms.{taken}
use Rattle.script_servers.proofs.Texts.{only-count, only-room}
use Rattle.script_servers.proofs.server.Server.answer.Goals as goal

pub returns : goal.returns
returns c =
    let kind = c.args.kind in
    let a = content_of c.in-Some.content in
    let room = c.args.room.now in
    let wrote = c.write_answer.ensures in
    record {
      count = c.unwrap_or.ensures ∙ only-count (can_write kind a) (answer_text a) room _ wrote.answer ∙ ap (λ o. taken (text_by kind o) room) c.in-Some.ensures;
      room = wrote.after ∙ only-room (can_write kind a) (answer_text a) room ∙ ap (λ o. written (text_by kind o) room) c.in-Some.ensures;
    }
