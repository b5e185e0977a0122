-- The second call begins with what the first one left.
use Rattle.std.proofs.Common.{◌≡◌, ℕ, ◌++◌, length, Option, sym, ap, ◌∙◌}
use Rattle.machine.specs.Script.{State}
use Rattle.pages.specs.Sites.{Bytes, Request}
use Rattle.pages.specs.Browser.{Window, Part, nth, needs, TurnOf}
use Rattle.browser.specs.declared.pending.Pending.{Pending}
use Rattle.browser.specs.declared.pending.Finished.{Finished}
use Rattle.browser.specs.Ends.{request_of, server_outs_of}
use Rattle.browser.specs.Halves.{page_outs_of}
use Rattle.browser.specs.Parts.{part_of, sites_in, scripts_in}
use Rattle.browser.specs.Values.{outs_of}
use Rattle.browser.specs.Whole.{reply_in}
use Rattle.browser.specs.Wire.{SiteTable}
use Rattle.browser.proofs.Together.{server_so, outs_so}
use Rattle.browser.proofs.browser.Browser.turn.Goals as goal

pub returns-clause-outs : goal.returns-clause-outs
returns-clause-outs c =
    let first : Pending = c.begin.result in
    let last : Finished = c.finish.result in
    let table : SiteTable = sites_in c.args.self in
    let i : ℕ = c.args.window in
    let bs : Bytes = c.args.answer.now in
    let b : Part State = part_of c.args.self in
    let asked : Option Request = needs (scripts_in c.args.self) (TurnOf i) b in
    let found : Option (Window State) = nth i b.windows in
    let server : outs_of last.server ≡ server_outs_of table asked bs =
    c.finish.ensures.server ∙ ap (λ z. server_outs_of z (request_of first) bs) c.begin.ensures.rest.1 ∙ ap (λ z. server_outs_of table z bs) c.begin.ensures.need in
    ap (λ z. outs_of z ++ outs_of last.server) c.finish.ensures.page
    ∙ ap (λ z. z ++ outs_of last.server) c.begin.ensures.out
    ∙ ap (λ z. page_outs_of (scripts_in c.args.self) found b ++ z) (server ∙ server_so table asked bs)
    ∙ sym (outs_so (length table) found b (reply_in table asked bs))
