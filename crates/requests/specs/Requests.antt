-- Requests as bytes: a line with the path, fields, an empty line, a body. Assumes nothing.
use Rattle.std.specs.Prelude.{ℕ, cond, List, ◌++◌, length, Some, None, codes, Option, ◌==◌, nat_lt}
use Rattle.octets.specs.declared.Class.TheVariants.{Name, Visible}
use Rattle.octets.specs.Answers.{Answer, Read, Fault}
use Rattle.octets.specs.Classes.{has}
use Rattle.octets.specs.Fronts.{and_then, after, front, past}
use Rattle.octets.specs.Numbers.{number}
use Rattle.addresses.specs.Address.{host_then, end_from, read_site, path_ok}
use Rattle.lines.specs.Heads.{fields}
use Rattle.lines.specs.Lines.{crlf, same_name, token_ok}

-- what the fields said so far; a site is a host and a port
pub record Known : Type 0 where
  pub host : Option (List ℕ × ℕ)
  pub origin : Option (List ℕ × ℕ)
  pub token : Option (List ℕ)
  pub length : Option ℕ

-- before the first field
abbrev pub unknown : Known
unknown = record { host = None; origin = None; token = None; length = None }

-- whatever is wrong with a request is fault 6
abbrev pub or_unreadable : {A : Type 0} → Option A → Answer A
or_unreadable None = Fault 6
or_unreadable (Some x) = Read x

abbrev pub readable : {A : Type 0} → Answer A → Option A
readable (Fault n) = None
readable (Read x) = Some x

-- a host and a port, with nothing after them
abbrev pub host_of : List ℕ → Option (List ℕ × ℕ)
host_of v = end_from (host_then (front (has Name) v) (past (has Name) v))

abbrev pub host_field : Known → Option (List ℕ × ℕ) → Answer Known
host_field f None = Fault 6
host_field f (Some s) = Read (record { host = Some s; origin = f.origin; token = f.token; length = f.length })

abbrev pub origin_field : Known → Option (List ℕ × ℕ) → Answer Known
origin_field f None = Fault 6
origin_field f (Some s) = Read (record { host = f.host; origin = Some s; token = f.token; length = f.length })

abbrev pub token_field : Known → List ℕ → Answer Known
token_field f v = cond (token_ok v) (Read (record { host = f.host; origin = f.origin; token = Some v; length = f.length })) (Fault 6)

abbrev pub length_from : Known → Option ℕ → Answer Known
length_from f None = Fault 6
length_from f (Some n) = Read (record { host = f.host; origin = f.origin; token = f.token; length = Some n })

-- digits that write up to 1,024
abbrev pub length_of : List ℕ → Option ℕ
length_of v = cond (nat_lt 0 (length v)) (number 1024 0 v) None

-- the field of such a length
abbrev pub length_field : Known → List ℕ → Answer Known
length_field f v = cond (nat_lt 0 (length v)) (length_from f (number 1024 0 v)) (Fault 6)

-- a field by its name; the body has a length and no other encoding, and other fields say nothing
abbrev pub taking : Known → List ℕ → List ℕ → Answer Known
taking f name v =
    cond (same_name name (codes "transfer-encoding")) (Fault 6)
    (cond (same_name name (codes "host")) (host_field f (host_of v))
    (cond (same_name name (codes "origin")) (origin_field f (read_site v))
    (cond (same_name name (codes "cookie")) (token_field f v)
    (cond (same_name name (codes "content-length")) (length_field f v) (Read f)))))

-- what is asked: of which site and path, by a page of which site (by none where a page is opened), with which token and bytes
pub record Asking : Type 0 where
  pub site : List ℕ × ℕ
  pub path : List ℕ
  pub origin : Option (List ℕ × ℕ)
  pub token : Option (List ℕ)
  pub body : List ℕ

-- a site is asked, and the body has as many bytes as the fields say; nothing follows it
abbrev pub body_of : List ℕ → Known → List ℕ → Option Asking
body_of path f s = and_then f.host (λ site. and_then f.length (λ n. cond (length s == n) (Some (record { site = site; path = path; origin = f.origin; token = f.token; body = s })) None))

abbrev pub path_then : List ℕ → List ℕ → Option Asking
path_then path s = cond (path_ok path) (and_then (after (codes " HTTP/1.1" ++ crlf) s) (λ u. and_then (readable (fields taking unknown u)) (λ h. body_of path h.0 h.1))) None

-- a request that is read to its end, or is fault 6
abbrev pub read_request : List ℕ → Answer Asking
read_request s = or_unreadable (and_then (after (codes "POST ") s) (λ t. path_then (front (has Visible) t) (past (has Visible) t)))
