-- What an agenda stands for.
use Rattle.std.specs.Prelude.{◌≡◌, ℕ, ◌-◌, List, [], ◌∷◌, ◌++◌, map, Some, None, Option}
use Rattle.std.specs.Vec.Iter.{into_iter_items}
use Rattle.bounded.specs.Numbers.{number_of}
use Rattle.bounded.specs.Texts.{text_of}
use Rattle.settings.specs.declared.lines.TurnLine.{TurnLine}
use Rattle.settings.specs.Lines.{lines}
use Rattle.settings.specs.Settings.{turns_of}
use Rattle.pages.specs.Sites.{Bytes}
use Rattle.pages.specs.Browser.{Event}
use Rattle.pages.specs.Runs as runs
use Rattle.plans.specs.declared.agenda.Agenda.{Agenda}
use Rattle.plans.specs.declared.agenda.Opening.{Opening}
use Rattle.plans.specs.Plans.{line_of, open_of}

-- Site and path of a window to open.
abbrev pub opening_of : Opening → ℕ × Bytes
opening_of o = (number_of o.site, text_of o.path)

abbrev pub to_open : Opening → runs.Open
to_open o = open_of (opening_of o)

-- What is left of the line that has begun.
abbrev pub begun_line : Option ℕ → List runs.Line
begun_line None = []
begun_line (Some n) = runs.Rounds n ∷ []

-- The lines that are left.
abbrev pub lines_of : Agenda → List runs.Line
lines_of a = begun_line a.rounds ++ map line_of (turns_of (lines a.turns.text.now))

-- The windows that are left to open, and those that have yet to have their turn in this round.
abbrev pub agenda_of : Agenda → runs.Agenda
agenda_of a = record {
  opens = map to_open (into_iter_items a.opens);
  round = runs.count_from a.round.start (a.round.end - a.round.start);
  lines = lines_of a;
}

-- The first line is taken off, if there is one.
abbrev pub Takes : Option TurnLine → List runs.Line → List runs.Line → Type 0
Takes None before after = (before ≡ []) × (after ≡ [])
Takes (Some line) before after = before ≡ line_of line ∷ after

-- The event that is due, if one is.
abbrev pub event_in : Option runs.Due → Option Event
event_in = runs.event_by

-- What is left after it: nothing, where nothing was due.
abbrev pub rest_of : Option runs.Due → runs.Agenda
rest_of None = record { opens = []; round = []; lines = [] }
rest_of (Some d) = d.rest
