-- What the code's values stand for. Assumes nothing.
use Rattle.std.specs.Prelude.{ℕ, List, map, Ok, Err, Result}
use Rattle.addresses.specs.declared.Site.{Site}
use Rattle.addresses.specs.Views.{site_of}
use Rattle.bounded.specs.declared.fixed.FixedVec.{FixedVec}
use Rattle.settings.specs.declared.lines.TurnLine.{TurnLine}
use Rattle.settings.specs.declared.Open.{Open}
use Rattle.settings.specs.declared.Settings.{Settings}
use Rattle.settings.specs.declared.Fault.{Fault}
use Rattle.settings.specs.declared.Fault.TheVariants.{Unreadable, TooMany}
use Rattle.settings.specs.declared.Refusal.{Refusal}
use Rattle.settings.specs.Lines.{lines}
use Rattle.bounded.specs.Fixed.{items_of}
use Rattle.settings.specs.Settings.{Config, Outcome, Good, Bad, turns_of}

-- the number of a fault
abbrev pub fault_number : Fault → ℕ
fault_number Unreadable = 1
fault_number TooMany = 2

-- sites by their numbers
abbrev pub sites_in : FixedVec Site 16 → List (List ℕ × ℕ)
sites_in t = map site_of (items_of t)

abbrev pub open_of : Open → ℕ × List ℕ
open_of o = (o.site, o.path.now)

-- windows in their order
abbrev pub opens_in : FixedVec Open 16 → List (ℕ × List ℕ)
opens_in t = map open_of (items_of t)

abbrev pub settings_of : Settings → Config
settings_of s = record { sites = sites_in s.sites; opens = opens_in s.opens; turns = turns_of (lines s.turns.text.now) }

abbrev pub outcome_of : Result Settings Refusal → Outcome Config
outcome_of (Ok s) = Good (settings_of s)
outcome_of (Err e) = Bad (fault_number e.fault) e.line

-- what a check answers of turns that it went through
abbrev pub checked_of : Result (Unit {0}) Refusal → List TurnLine → Outcome (List TurnLine)
checked_of (Ok u) ts = Good ts
checked_of (Err e) ts = Bad (fault_number e.fault) e.line
