use Rattle.std.proofs.Common.{vec_items, ap, ◌∙◌, arith}
use Rattle.pages.specs.Browser.{hears}
use Rattle.windows.specs.Queues.{word_of}
use Rattle.windows.specs.Windows.{window_of}
use Rattle.browser.proofs.Changes.{change-set, change-past}
use Rattle.browser.proofs.row.Row.hear.Goals as goal

pub returns-in-Some : goal.returns-in-Some
returns-in-Some c =
    let x = c.in-Some.found.now in
    let heard = c.hear.ensures ∙ ap (λ z. hears z (word_of c.args.word.now) (window_of x)) (c.from.ensures ∙ c.number.ensures.is) in
    change-set window_of _ (vec_items c.args.self.now.windows) c.args.window x _ c.in-Some.ensures.value heard (omega (arith, c.in-Some.ensures.item))

pub returns-in_default : goal.returns-in_default
returns-in_default c = change-past window_of _ (vec_items c.args.self.now.windows) c.args.window (omega (arith, c.in_default.ensures.item))
