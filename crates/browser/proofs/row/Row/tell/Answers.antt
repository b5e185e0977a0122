use Rattle.std.proofs.Common.{vec_items, arith}
use Rattle.windows.specs.Windows.{window_of}
use Rattle.browser.proofs.Changes.{change-set, change-past}
use Rattle.browser.proofs.row.Row.tell.Goals as goal

pub returns-in-Some : goal.returns-in-Some
returns-in-Some c = change-set window_of _ (vec_items c.args.self.now.windows) c.args.window c.in-Some.found.now _ c.in-Some.ensures.value c.tell.ensures (omega (arith, c.in-Some.ensures.item))

pub returns-in_default : goal.returns-in_default
returns-in_default c = change-past window_of _ (vec_items c.args.self.now.windows) c.args.window (omega (arith, c.in_default.ensures.item))
