-- Which acts are done: lengths, paths and numbers of sites.
use Rattle.std.specs.Prelude.{ℕ, ◌+◌, ◌≤◌, Bool, true, ◌&&◌, List, take, drop, nat_le, nat_lt}
use Rattle.addresses.specs.Address.{path_ok}
use Rattle.machine.specs.declared.Span.{Span}
use Rattle.machine.specs.declared.Act.{Act}
use Rattle.machine.specs.declared.Act.TheVariants.{Nothing, Ask, Say, Keep, Look, Open}

-- the bytes of a part of a memory
abbrev pub part : Span → List ℕ → List ℕ
part span memory = take span.len (drop span.from memory)

-- whether an act is done, where so many sites are named
abbrev pub allowed : Act → ℕ → List ℕ → Bool
allowed Nothing sites memory = true
allowed (Ask site path body) sites memory = nat_lt site sites && (path_ok (part path memory) && nat_le body.len 1024)
allowed (Say window site bytes) sites memory = nat_lt site sites && nat_le bytes.len 1024
allowed (Keep bytes) sites memory = nat_le bytes.len 4096
allowed Look sites memory = true
allowed (Open site path) sites memory = nat_lt site sites && path_ok (part path memory)

-- a part lies in a memory of so many bytes
abbrev pub Inside : Span → ℕ → Type 0
Inside span size = span.from + span.len ≤ size

-- the bytes of an act lie in a memory of so many bytes
abbrev pub Within : Act → ℕ → Type 0
Within Nothing size = Unit {0}
Within (Ask site path body) size = Inside path size × Inside body size
Within (Say window site bytes) size = Inside bytes size
Within (Keep bytes) size = Inside bytes size
Within Look size = Unit {0}
Within (Open site path) size = Inside path size
