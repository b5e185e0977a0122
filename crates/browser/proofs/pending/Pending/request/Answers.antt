use Rattle.std.proofs.Common.{◌≡◌, Some, ap, ◌∙◌}
use Rattle.std.specs.Option.{option_map}
use Rattle.storage.specs.Storage.{tokens_of}
use Rattle.browser.specs.Parts.{sites_in}
use Rattle.browser.specs.Values.{need_of}
use Rattle.browser.proofs.Replies.{is_written}
use Rattle.browser.proofs.pending.Pending.request.Goals as goal

pub returns-clause-room : goal.returns-clause-room
returns-clause-room c =
    let b = c.args.self.now.browser in
    let is : c.args.self.now.need ≡ Some c.in_ok-need.need.now = cc c.in_ok-need.ensures.value in
    c.write_request.ensures.after ∙ is_written (sites_in b) _ _ _ c.args.room.now (ap (option_map (need_of (tokens_of b.tokens))) is) c.asking.ensures
