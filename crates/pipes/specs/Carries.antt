-- What is said of an exchange over streams, of which nothing is known.
use Rattle.std.specs.Prelude.{◌≡◌, ℕ, ◌≤◌, Bool, true, false, List, [], length, is_some, Some, None, Option}
use Rattle.pages.specs.Browser.{nth}
use Rattle.storage.specs.declared.table.Table.{Table}
use Rattle.storage.specs.Tables.{table_of}
use Rattle.pipes.specs.declared.fault.Lost.{Lost}
use Rattle.pipes.specs.declared.fault.Lost.TheVariants.{Ended, Broken}

-- Has it broken down? An input that has ended is no fault.
abbrev pub is_broken : Option Lost → Bool
is_broken None = false
is_broken (Some Ended) = false
is_broken (Some (Broken f)) = true

-- One exchange: how much room there is; whether the carrier was lost, and its table; the asked site's number; the answer; the carrier after. Same says that all of it is as it was, its streams too.
pub record Carried (room : ℕ) (lost : Option Lost) (table : Table) (site : ℕ) (answer : List ℕ) (lost' : Option Lost) (table' : Table) (Same : Type 0) : Type 0 where
  -- the answer fits
  pub fits : length answer ≤ room
  -- the table stays
  pub kept : table' ≡ table
  -- once lost, always lost: there are no answers, and nothing is touched
  pub still : is_some lost ≡ true → (answer ≡ []) × Same
  -- who gets lost gives no answer
  pub silent : is_some lost' ≡ true → answer ≡ []
  -- nothing is sent to a site that has no number
  pub unknown : nth site (table_of table) ≡ None → (answer ≡ []) × Same
