-- Who may see an answer. Assumes nothing.
use Rattle.std.specs.Prelude.{ℕ, Bool, true, false, ◌&&◌, List, Some, None, Option, ◌==◌}
use Rattle.std.specs.Str.{bytes_eq}
use Rattle.octets.specs.Answers.{Answer, Read, Fault}
use Rattle.answers.specs.declared.Kind.TheVariants.{Asked}
use Rattle.answers.specs.Answers.{Allows, All, Only, Content, read_answer}

-- two sites are one: the same host, and the same port
abbrev pub same_site : List ℕ × ℕ → List ℕ × ℕ → Bool
same_site a b = bytes_eq a.0 b.0 && a.1 == b.1

-- does an answer allow a site to see it
abbrev pub allows : Option Allows → List ℕ × ℕ → Bool
allows None asker = false
allows (Some All) asker = true
allows (Some (Only host port)) asker = same_site (host, port) asker

-- an answer that can't be read allows nobody
abbrev pub seen_from : Answer Content → List ℕ × ℕ → Bool
seen_from (Fault n) asker = false
seen_from (Read a) asker = allows a.allowed asker

-- do the bytes of an answer let a site of another server see it: a function of the bytes and of that site alone
abbrev pub lets_see : List ℕ → List ℕ × ℕ → Bool
lets_see s asker = seen_from (read_answer Asked s) asker
