-- What settings say is to be done, in the words of runs.
use Rattle.std.specs.Prelude.{ℕ, map}
use Rattle.settings.specs.declared.lines.TurnLine.{TurnLine}
use Rattle.settings.specs.declared.lines.TurnLine.TheVariants as by
use Rattle.settings.specs.Settings.{Config}
use Rattle.pages.specs.Sites.{Bytes}
use Rattle.pages.specs.Runs.{Open, Line, Turn, Rounds, Settings}

-- A line of turns.
abbrev pub line_of : TurnLine → Line
line_of (by.Window n) = Turn n
line_of (by.Rounds n) = Rounds n

-- A window to open: its site and its path.
abbrev pub open_of : ℕ × Bytes → Open
open_of o = record { site = o.0; path = o.1 }

-- Windows to open, and lines of turns.
abbrev pub planned : Config → Settings
planned c = record { opens = map open_of c.opens; lines = map line_of c.turns }
