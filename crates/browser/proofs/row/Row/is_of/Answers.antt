use Rattle.std.proofs.Common.{◌<◌, ◌≤◌, eqb, map, length, sym, ap, ◌∙◌, arith}
use Rattle.bounded.specs.Numbers.{number_of}
use Rattle.pages.specs.Browser.{nth}
use Rattle.pages.specs.Outs.{is_of}
use Rattle.windows.specs.Windows.{window_of}
use Rattle.storage.proofs.Rows.{nth_here, nth_past}
use Rattle.browser.proofs.row.Row.is_of.Goals as goal

pub returns-in-Some : goal.returns-in-Some
returns-in-Some c =
    let ws = c.deref.result.now in
    let i = c.args.window in
    let t = number_of c.args.site in
    let inside : i < length ws = omega (arith, c.in-Some.ensures.lookup) in
    c.eq.ensures.is ∙ ap (λ z. eqb z t) c.site.ensures
    ∙ ap (is_of t) (sym (nth_here window_of ws i c.in-Some.found.now c.in-Some.ensures.lookup.1 inside))
    ∙ ap (λ zs. is_of t (nth i (map window_of zs))) c.deref.ensures.value

pub returns-in-None : goal.returns-in-None
returns-in-None c =
    let ws = c.deref.result.now in
    let i = c.args.window in
    let t = number_of c.args.site in
    let past : length ws ≤ i = omega (arith, c.in-None.ensures.lookup) in
    ap (is_of t) (sym (nth_past window_of ws i past)) ∙ ap (λ zs. is_of t (nth i (map window_of zs))) c.deref.ensures.value
