-- Sites and windows that fit a plan.
use Rattle.std.specs.Prelude.{◌≡◌, ℕ, ◌≤◌, Bool, true, cond, ◌&&◌, List, [], ◌∷◌, length, Some, None, Option, nat_le, nat_lt}
use Rattle.addresses.specs.Address.{site_ok}
use Rattle.pages.specs.Sites.{Bytes}

-- Is it so of each?
unfoldable pub each : {A : Type 0} → (A → Bool) → List A → Bool
each f [] = true
each f (x ∷ xs) = f x && each f xs

-- A host and a port within their rules.
abbrev pub is_site : Bytes × ℕ → Bool
is_site s = site_ok s.0 s.1

-- At most 16, and each is a site.
abbrev pub AllSites : List (Bytes × ℕ) → Type 0
AllSites ss = (length ss ≤ 16) × (each is_site ss ≡ true)

-- Has its site a number below 16, and its path at most 255 bytes?
abbrev pub opening_ok : ℕ × Bytes → Bool
opening_ok o = nat_lt o.0 16 && nat_le (length o.1) 255

-- A window to open, if it fits.
abbrev pub fitting : ℕ × Bytes → Option (ℕ × Bytes)
fitting o = cond (opening_ok o) (Some o) None

-- At most 16, and each fits.
abbrev pub AllOpenings : List (ℕ × Bytes) → Type 0
AllOpenings os = (length os ≤ 16) × (each opening_ok os ≡ true)
