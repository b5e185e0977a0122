-- The written form of settings, and that it is read back. Assumes nothing.
use Rattle.std.specs.Prelude.{◌≡◌, ℕ, List, [], ◌∷◌, ◌++◌, map, Some, None, codes, decimal, Option}
use Rattle.std.specs.List.{slice_get}
use Rattle.addresses.specs.Written.{site_text}
use Rattle.settings.specs.declared.lines.TurnLine.{TurnLine}
use Rattle.settings.specs.declared.lines.TurnLine.TheVariants.{Window, Rounds}
use Rattle.settings.specs.Settings.{Config, Good, read_settings}

-- the line that names a site
abbrev pub site_line : List ℕ × ℕ → List ℕ
site_line s = codes "site " ++ (site_text s.0 s.1 ++ codes "/")

-- the line of a window of a site; an empty one if there is no such site
abbrev pub open_text : Option (List ℕ × ℕ) → List ℕ → List ℕ
open_text None path = []
open_text (Some s) path = codes "open " ++ (site_text s.0 s.1 ++ path)

abbrev pub open_line : List (List ℕ × ℕ) → ℕ × List ℕ → List ℕ
open_line sites o = open_text (slice_get sites o.0) o.1

abbrev pub turn_text : TurnLine → List ℕ
turn_text (Window n) = codes "turn " ++ decimal n
turn_text (Rounds n) = decimal n ++ codes " times all"

-- sites first, then windows, then turns
abbrev pub lines_of : Config → List (List ℕ)
lines_of c = map site_line c.sites ++ (map (open_line c.sites) c.opens ++ map turn_text c.turns)

-- each line with its newline
abbrev pub ended : List (List ℕ) → List ℕ
ended [] = []
ended (l ∷ ls) = l ++ (10 ∷ ended ls)

abbrev pub settings_text : Config → List ℕ
settings_text c = ended (lines_of c)

-- what is written of settings that were read is read as the same settings
abbrev pub SettingsReadBack : Type 0
SettingsReadBack = (s : List ℕ) (c : Config) → read_settings s ≡ Good c → read_settings (settings_text c) ≡ Good c
