-- The written form of a site, and that it is read back. Assumes nothing.
use Rattle.std.specs.Prelude.{◌≡◌, ℕ, ◌<◌, ◌≤◌, true, cond, List, [], ◌++◌, Some, codes, decimal, ◌==◌}
use Rattle.octets.specs.Answers.{Read}
use Rattle.addresses.specs.Address.{labels, read_site, read_address}

-- ':' and the port; nothing for 443
abbrev pub port_text : ℕ → List ℕ
port_text port = cond (port == 443) [] (codes ":" ++ decimal port)

abbrev pub site_text : List ℕ → ℕ → List ℕ
site_text host port = codes "https://" ++ (host ++ port_text port)

-- what is written of a site that was read is read as the same site
abbrev pub SiteReadsBack : Type 0
SiteReadsBack = (s host : List ℕ) (port : ℕ) → read_site s ≡ Some (host, port) → read_site (site_text host port) ≡ Some (host, port)

-- an address that was read, written as its site and its path, is read as the same address
abbrev pub AddressReadsBack : Type 0
AddressReadsBack = (s host path : List ℕ) (port : ℕ) → read_address s ≡ Read (host, port, path) → read_address (site_text host port ++ path) ≡ Read (host, port, path)

-- any port may be written out: a site with `:443` is the one without
abbrev pub AnyPortReads : Type 0
AnyPortReads = (host : List ℕ) (port : ℕ) → labels 8 host ≡ true → 0 < port → port ≤ 65535 → read_site (codes "https://" ++ (host ++ (codes ":" ++ decimal port))) ≡ Some (host, port)
