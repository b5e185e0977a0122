-- When the second half of an event can be done.
use Rattle.std.specs.Prelude.{ℕ, Bool, true, Some, None, Option, nat_lt}
use Rattle.bounded.specs.declared.site.SiteNumber.{SiteNumber}
use Rattle.browser.specs.declared.values.Need.{Need}

-- The asking window is there, or there is room for a window more.
abbrev pub ready_for : ℕ → ℕ → Option SiteNumber → Bool
ready_for count window (Some from) = nat_lt window count
ready_for count window None = nat_lt count 16

-- Where a server is asked.
abbrev pub is_ready : ℕ → ℕ → Option Need → Bool
is_ready count window None = true
is_ready count window (Some need) = ready_for count window need.from
