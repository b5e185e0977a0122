use Rattle.std.proofs.Common.{◌≡◌, ◌<◌, ◌≤◌, ℕ, length, Some, None, Option, sym, ap, ◌∙◌, arith}
use Rattle.std.specs.Option.{option_map}
use Rattle.machine.specs.Script.{State}
use Rattle.pages.specs.Browser.{Window, nth}
use Rattle.book.specs.Records.{event_of}
use Rattle.bounded.specs.Numbers.{number_of}
use Rattle.browser.specs.Parts.{part_of}
use Rattle.storage.proofs.Rows.{nth_here, nth_past}
use Rattle.windows.specs.Windows.{window_of}
use Rattle.runs.specs.Events.{site_in}
use Rattle.runs.proofs.event.site_of.Goals as goal

-- the site of a window that is found
abbrev site_at : Option (Window State) → Option ℕ
site_at = option_map (λ x. x.site)

pub returns-in_err-found-in-Turn : goal.returns-in_err-found-in-Turn
returns-in_err-found-in-Turn c =
    let b = part_of c.args.browser.now in
    let ws = c.windows.result.now in
    let i : ℕ = c.in-Turn.window in
    let past : length ws ≤ i = omega (arith, c.in_err-found-in-Turn.ensures.lookup) in
    let n : nth i b.windows ≡ None = ap (nth i) (sym c.windows.ensures.is) ∙ nth_past window_of ws i past in
    ap (option_map number_of) c.from_residual.ensures ∙ sym (ap site_at n) ∙ sym (ap (λ z. site_in (event_of z) b) c.in-Turn.is)

pub returns-in_ok-found-in-Turn : goal.returns-in_ok-found-in-Turn
returns-in_ok-found-in-Turn c =
    let b = part_of c.args.browser.now in
    let ws = c.windows.result.now in
    let i : ℕ = c.in-Turn.window in
    let x = c.in_ok-found-in-Turn.found.now in
    let inside : i < length ws = omega (arith, c.in_ok-found-in-Turn.ensures.lookup) in
    let n : nth i b.windows ≡ Some (window_of x) = ap (nth i) (sym c.windows.ensures.is) ∙ nth_here window_of ws i x c.in_ok-found-in-Turn.ensures.lookup.1 inside in
    ap Some c.site.ensures ∙ sym (ap site_at n) ∙ sym (ap (λ z. site_in (event_of z) b) c.in-Turn.is)
