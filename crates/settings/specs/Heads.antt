-- What a line that names a site stands for. Assumes nothing.
use Rattle.std.specs.Prelude.{ℕ, Bool, true, false, List}
use Rattle.addresses.specs.Views.{address_of}
use Rattle.settings.specs.declared.lines.Head.{Head}
use Rattle.settings.specs.declared.lines.Head.TheVariants.{Site, Open}

-- whether it opens a window, and the address
abbrev pub head_of : Head → Bool × (List ℕ × ℕ × List ℕ)
head_of (Site a) = (false, address_of a)
head_of (Open a) = (true, address_of a)
