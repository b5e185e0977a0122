-- What is still to be written of settings. Assumes nothing.
use Rattle.std.specs.Prelude.{ℕ, List, ◌++◌, map, drop}
use Rattle.std.specs.Slice.Iter.{iter_rest}
use Rattle.addresses.specs.Views.{site_of}
use Rattle.settings.specs.declared.write.LineText.{LineText}
use Rattle.settings.specs.declared.write.Unwritten.{Unwritten}
use Rattle.settings.specs.declared.lines.TurnLine.{TurnLine}
use Rattle.settings.specs.Lines.{lines}
use Rattle.settings.specs.Settings.{turns_of}
use Rattle.settings.specs.Views.{sites_in, open_of}
use Rattle.settings.specs.Written.{site_line, open_line, turn_text}

-- the bytes of a line, without its newline
abbrev pub line_of : LineText → List ℕ
line_of l = l.word.now ++ (l.host.now ++ (drop l.number.from l.number.bytes ++ l.end.now))

-- the lines of sites, of windows of the sites xs, and of turns
abbrev pub left_from : List (List ℕ × ℕ) → List (List ℕ × ℕ) → List (ℕ × List ℕ) → List TurnLine → List (List ℕ)
left_from xs ss os ts = map site_line ss ++ (map (open_line xs) os ++ map turn_text ts)

-- the lines that are left
abbrev pub left_of : Unwritten → List (List ℕ)
left_of u = left_from (sites_in u.all.now) (map site_of (iter_rest u.sites)) (map open_of (iter_rest u.opens)) (turns_of (lines u.turns.text.now))
