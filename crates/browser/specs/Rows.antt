-- What the row of windows stands for.
use Rattle.std.specs.Prelude.{List, map, vec_items}
use Rattle.machine.specs.Script.{State}
use Rattle.pages.specs.Browser.{Window}
use Rattle.windows.specs.Windows.{window_of}
use Rattle.browser.specs.declared.row.Row.{Row}

-- The windows, by number.
abbrev pub windows_of : Row → List (Window State)
windows_of r = map window_of (vec_items r.windows)
