-- What came of a window's run.
use Rattle.std.specs.Prelude.{ℕ}
use Rattle.machine.specs.Script.{State}
use Rattle.machine.specs.Turn.{fault_number}
use Rattle.bounded.specs.Numbers.{number_of}
use Rattle.pages.specs.Sites.{Act}
use Rattle.pages.specs.Browser.{Window, told_now, act_of}
use Rattle.windows.specs.Scripts.{by_machine, outcome_in}
use Rattle.browser.specs.declared.row.run.Ran.{Ran}
use Rattle.browser.specs.Deeds.{deed_of}

-- The site, the act, and the number of the fault.
abbrev pub ran_of : Ran → ℕ × Act × ℕ
ran_of r = (number_of r.site, deed_of r.deed, r.fault)

-- The same of a window that runs, where n sites are named.
abbrev pub run_of : ℕ → Window State → ℕ × Act × ℕ
run_of n x = (x.site, act_of (by_machine n) x, fault_number (outcome_in n x.state (told_now x)))
