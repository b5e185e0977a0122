use Rattle.std.proofs.Common.{◌≡◌, ◌+◌, ◌≤◌, [], length}
use Rattle.settings.specs.Lines.{lines}
use Rattle.settings.specs.Settings.{lines_from, read_settings}
use Rattle.settings.specs.Views.{settings_of}
use Rattle.settings.proofs.read_settings.Given as goal

abbrev pub invariant-loop-head : goal.invariant-loop-head
invariant-loop-head l =
    (read_settings l.text ≡ lines_from (settings_of l.settings) (l.line + 1) (lines l.rest))
    × ((settings_of l.settings).turns ≡ [])
    × (l.line + length l.rest ≤ length l.text)

abbrev pub decreases-loop-head : goal.decreases-loop-head
decreases-loop-head l = length l.rest
