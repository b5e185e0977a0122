-- Lists of hosts and ports.
use Rattle.std.specs.Prelude.{ℕ, Bool, true, ◌&&◌, List, [], ◌∷◌}
use Rattle.addresses.specs.Address.{site_ok}
use Rattle.pages.specs.Sites.{Bytes}
use Rattle.bounded.specs.Texts.{text_of}
use Rattle.storage.specs.declared.table.Row.{Row}

-- A row of the table.
abbrev pub row_of : Row → Bytes × ℕ
row_of r = (text_of r.host, r.port)

-- Are all of them sites?
unfoldable pub all_sites : List (Bytes × ℕ) → Bool
all_sites [] = true
all_sites (s ∷ ss) = site_ok s.0 s.1 && all_sites ss
