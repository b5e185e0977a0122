use Rattle.std.proofs.Common.{sym, refl, ap, ◌∙◌, subst}
use Rattle.pages.specs.Browser.{stepped, begun_by, nth, with_windows}
use Rattle.storage.specs.Tables.{table_of}
use Rattle.windows.specs.Scripts.{by_machine}
use Rattle.browser.specs.Parts.{part_of, scripts_in}
use Rattle.browser.specs.Ran.{ran_of, run_of}
use Rattle.browser.specs.Rows.{windows_of}
use Rattle.browser.proofs.Changes.{change-none}
use Rattle.browser.proofs.Turns.{ran_none, FirstHalf, first_half, found_inside}
use Rattle.browser.proofs.browser.Browser.begin.Goals as goal

pub returns-in_default-clause-part : goal.returns-in_default-clause-part
returns-in_default-clause-part c =
    let b = part_of c.args.self in
    let none = ran_none (run_of c.len-sites.result) (nth c.args.window b.windows) c.in_default.ensures.ran in
    ap (λ z. with_windows z b) (c.run.ensures.row ∙ change-none (stepped (by_machine c.len-sites.result)) b.windows c.args.window none)
    ∙ ap (λ z. begun_by (scripts_in c.args.self) c.args.window z b) (sym none)

pub act-need-requires : goal.act-need-requires
act-need-requires c = record { here = found_inside c.len-sites.result c.args.window (part_of c.args.self).windows (windows_of c.run.new.self) (ran_of c.in-Some.ran) c.run.ensures.row c.in-Some.ensures.ran }

pub returns : goal.returns
returns c =
    let b = part_of c.args.self in
    let i = c.args.window in
    let xs = windows_of c.run.new.self in
    let r = ran_of c.in-Some.ran in
    let half = subst (λ n. FirstHalf n i b xs r) c.len-sites.ensures.is (first_half c.len-sites.result i b xs r c.run.ensures.row c.in-Some.ensures.ran) in
    record {
      part = c.act-need.ensures.part ∙ half.part;
      need = c.act-need.ensures.need ∙ half.need;
      out = c.page_out-out.ensures ∙ half.outs;
      fault = half.fault;
      rest = (refl, ap table_of c.act-need.ensures.rest);
    }
