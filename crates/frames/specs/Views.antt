-- What the code's heads stand for.
use Rattle.addresses.specs.Views.{site_of}
use Rattle.frames.specs.declared.Head.{Head}
use Rattle.frames.specs.Heads.{Heading}

abbrev pub head_of : Head → Heading
head_of h = record { kind = h.kind; site = site_of h.site; len = h.len }
