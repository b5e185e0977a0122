use Rattle.std.proofs.Common.{◌<◌, ◌≤◌, length, vec_items, sym, ap, ◌∙◌, arith}
use Rattle.std.specs.Option.{option_map}
use Rattle.machine.specs.Turn.{fault_number}
use Rattle.pages.specs.Browser.{Window}
use Rattle.machine.specs.Script.{State}
use Rattle.windows.specs.Windows.{window_of}
use Rattle.browser.specs.Ran.{ran_of, run_of}
use Rattle.storage.proofs.Rows.{nth_here, nth_past}
use Rattle.browser.proofs.Changes.{change-set, change-past}
use Rattle.browser.proofs.Turns.{same_run}
use Rattle.browser.proofs.row.Row.run.Goals as goal

past : (c : goal.After-from_residual) → length (vec_items c.args.self.now.windows) ≤ c.args.window
past c = omega (arith, c.in_err-found.ensures.item)

pub returns-in_err-found-clause-row : goal.returns-in_err-found-clause-row
returns-in_err-found-clause-row c = change-past window_of _ (vec_items c.args.self.now.windows) c.args.window (past c)

pub returns-in_err-found-clause-ran : goal.returns-in_err-found-clause-ran
returns-in_err-found-clause-ran c =
    ap (option_map ran_of) c.from_residual.ensures
    ∙ ap (option_map (run_of c.args.sites)) (sym (nth_past window_of (vec_items c.args.self.now.windows) c.args.window (past c)))

inside : (c : goal.After-fault) → c.args.window < length (vec_items c.args.self.now.windows)
inside c = omega (arith, c.in_ok-found.ensures.item)

pub returns-clause-row : goal.returns-clause-row
returns-clause-row c = change-set window_of _ (vec_items c.args.self.now.windows) c.args.window c.in_ok-found.found.now _ c.in_ok-found.ensures.value c.step-outcome.ensures.window (inside c)

pub returns-clause-ran : goal.returns-clause-ran
returns-clause-ran c =
    let x = c.in_ok-found.found.now in
    same_run (c.site.ensures ∙ ap (λ (z : Window State). z.site) c.step-outcome.ensures.window) (c.deed_of.ensures ∙ c.step-outcome.ensures.act) (c.fault.ensures ∙ ap fault_number c.step-outcome.ensures.outcome)
    ∙ ap (option_map (run_of c.args.sites)) (sym (nth_here window_of (vec_items c.args.self.now.windows) c.args.window x c.in_ok-found.ensures.value (inside c)))
