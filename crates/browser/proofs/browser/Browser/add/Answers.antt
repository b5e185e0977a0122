use Rattle.std.proofs.Common.{ap, ◌∙◌}
use Rattle.scripts.specs.Page.{page_in}
use Rattle.browser.specs.Halves.{unreadable_number}
use Rattle.browser.proofs.Replies.{steps_fault_lem}
use Rattle.browser.proofs.browser.Browser.add.Goals as goal

pub returns-clause-fault : goal.returns-clause-fault
returns-clause-fault c = c.page_fault.ensures ∙ ap unreadable_number c.script_of-unreadable.ensures.fault ∙ steps_fault_lem (page_in c.args.page.now)
