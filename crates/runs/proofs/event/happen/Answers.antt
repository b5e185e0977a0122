-- The halves and the exchange between them, each with what the one before left.
use Rattle.std.proofs.Common.{◌≡◌, ℕ, ◌++◌, length, take, Option, ap, ◌∙◌, subst}
use Rattle.machine.specs.Script.{State}
use Rattle.pages.specs.Sites.{Bytes, Request}
use Rattle.pages.specs.Browser.{Part, Event, begun}
use Rattle.book.specs.Records.{Entry, event_of}
use Rattle.browser.specs.declared.pending.Pending.{Pending}
use Rattle.browser.specs.declared.pending.Finished.{Finished}
use Rattle.browser.specs.Ends.{request_of, finished, server_outs_of, faults_of}
use Rattle.browser.specs.Parts.{part_of, sites_in, scripts_in}
use Rattle.browser.specs.Values.{outs_of}
use Rattle.browser.specs.Wire.{SiteTable}
use Rattle.runs.specs.Events.{site_in, begin_fault, page_outs_in, window_in, asked, Exchanged, entry_for}
use Rattle.runs.proofs.Halves.{ended_so, outs_are}
use Rattle.runs.proofs.event.happen.Goals as goal

pub returns-clause-occurs : goal.returns-clause-occurs
returns-clause-occurs g c =
    let first : Pending = c.begin-pending.result in
    let last : Finished = c.finish-browser.result in
    let table : SiteTable = sites_in c.args.browser in
    let e : Event = event_of c.args.event in
    let b : Part State = part_of c.args.browser in
    let q : Option Request = asked table e b in
    let room : ℕ = length c.args.request.now in
    let a : Bytes = take c.ask-n.result c.ask-n.new.answer in
    let begun-so = c.begin-pending.ensures in
    let same_sites : sites_in first.browser ≡ table = begun-so.rest.1 in
    let asks : request_of first ≡ q = begun-so.need in
    let G = g.C.Carrier.carries (length c.args.answer.now) in
    let exchange-first : Exchanged G room (sites_in first.browser) (request_of first) a c.args.carrier.now c.ask-n.new.carrier = c.ask-n.ensures.exchange room c.send-sent.ensures.bytes in
    let outs : outs_of last.page ++ outs_of last.server ≡ (entry_for table e a b).outs =
    ap (λ z. outs_of z ++ outs_of last.server) c.finish-browser.ensures.page
    ∙ ap (λ z. z ++ outs_of last.server) begun-so.out
    ∙ ap (λ z. page_outs_in table e b ++ z) (c.finish-browser.ensures.server ∙ ap (λ z. server_outs_of z (request_of first) a) same_sites ∙ ap (λ z. server_outs_of table z a) asks)
    ∙ outs_are table a b e in
    let fault : last.fault ≡ (entry_for table e a b).fault =
    c.finish-browser.ensures.fault ∙ ap (λ z. faults_of z (request_of first) a) begun-so.fault ∙ ap (λ z. faults_of (begin_fault table e b) z a) asks in
    record {
      answer = a;
      exchange =
          subst (λ z. Exchanged G room table z a c.args.carrier.now c.ask-n.new.carrier) asks
          (subst (λ z. Exchanged G room z (request_of first) a c.args.carrier.now c.ask-n.new.carrier) same_sites exchange-first);
      part = c.finish-browser.ensures.part
          ∙ ap (λ z. finished z first.window (request_of first) a (part_of first.browser)) same_sites
          ∙ ap (λ z. finished table z (request_of first) a (part_of first.browser)) begun-so.rest.0
          ∙ ap (λ z. finished table (window_in e) z a (part_of first.browser)) asks
          ∙ ap (λ z. finished table (window_in e) q a z) begun-so.part
          ∙ ended_so table a b e (begun (scripts_in c.args.browser) e b);
      noted =
          ap {B = Entry} (λ z. record { event = e; site = z; fault = last.fault; outs = outs_of last.page ++ outs_of last.server }) c.site_of-site.ensures
          ∙ ap {B = Entry} (λ z. record { event = e; site = site_in e b; fault = z; outs = outs_of last.page ++ outs_of last.server }) fault
          ∙ ap {B = Entry} (λ z. record { event = e; site = site_in e b; fault = (entry_for table e a b).fault; outs = z }) outs;
    }
