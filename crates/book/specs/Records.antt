-- What the book holds of an event.
use Rattle.std.specs.Prelude.{ℕ, List, ◌++◌, Option}
use Rattle.std.specs.Option.{option_map}
use Rattle.bounded.specs.Numbers.{number_of}
use Rattle.bounded.specs.Texts.{text_of}
use Rattle.pages.specs.Browser as pages
use Rattle.pages.specs.Outs.{Out}
use Rattle.browser.specs.Values.{outs_of}
use Rattle.book.specs.declared.record.Event.{Event}
use Rattle.book.specs.declared.record.Event.TheVariants.{Opening, Turn}
use Rattle.book.specs.declared.record.Record.{Record}

-- An event: what happened; the site of the window, if there is such a window; the number of the fault, or 0; what was let out.
pub record Entry : Type 0 where
  pub event : pages.Event
  pub site : Option ℕ
  pub fault : ℕ
  pub outs : List Out

-- What happened.
abbrev pub event_of : Event → pages.Event
event_of (Opening site path) = pages.Opening (number_of site) (text_of path)
event_of (Turn window) = pages.TurnOf window

-- What a record stands for.
abbrev pub entry_of : Record → Entry
entry_of r = record { event = event_of r.event; site = option_map number_of r.site; fault = r.fault; outs = outs_of r.page ++ outs_of r.server }
