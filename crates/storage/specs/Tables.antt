-- What a table of sites stands for: a list of hosts and ports.
use Rattle.std.specs.Prelude.{◌≡◌, ℕ, ◌<◌, Bool, cond, ◌&&◌, List, [], ◌∷◌, ◌++◌, map, length, Some, None, Option, nat_lt}
use Rattle.addresses.specs.Address.{site_ok}
use Rattle.pages.specs.Sites.{Bytes}
use Rattle.pages.specs.Browser.{nth}
use Rattle.bounded.specs.Fixed.{items_of}
use Rattle.storage.specs.declared.table.Table.{Table}
pub use Rattle.storage.specs.Rows.{row_of}

-- The sites of the table, by number.
abbrev pub table_of : Table → List (Bytes × ℕ)
table_of t = map row_of (items_of t.rows)

-- Is this a site, and are there fewer than 16?
abbrev pub fits_in : Bytes × ℕ → List (Bytes × ℕ) → Bool
fits_in s t = site_ok s.0 s.1 && nat_lt (length t) 16

-- The table with one site more, if it fits.
abbrev pub added : Bytes × ℕ → List (Bytes × ℕ) → List (Bytes × ℕ)
added s t = cond (fits_in s t) (t ++ (s ∷ [])) t

-- The number that it gets then.
abbrev pub numbered : Bytes × ℕ → List (Bytes × ℕ) → Option ℕ
numbered s t = cond (fits_in s t) (Some (length t)) None

-- None of the first n rows is this site.
abbrev pub NotBelow : ℕ → Bytes × ℕ → List (Bytes × ℕ) → Type 0
NotBelow n s t = (k : ℕ) → k < n → nth k t ≡ Some s → ⊥
