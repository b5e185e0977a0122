-- What the number of a site stands for.
use Rattle.std.specs.Prelude.{ℕ, cond, Some, None, Option, nat_lt}
use Rattle.bounded.specs.declared.site.SiteNumber.{SiteNumber}

-- Its number.
abbrev pub number_of : SiteNumber → ℕ
number_of s = s.number

-- This number, if it is below the bound.
abbrev pub below : ℕ → ℕ → Option ℕ
below bound n = cond (nat_lt n bound) (Some n) None
