-- Addresses and sites as bytes. Assumes nothing.
use Rattle.std.specs.Prelude.{ℕ, zero, suc, ◌-◌, Bool, false, cond, not, ◌&&◌, List, [], ◌∷◌, length, Some, None, codes, Option, ◌==◌, nat_le, nat_lt, slice_index}
use Rattle.std.specs.List.{prefix_len}
use Rattle.octets.specs.declared.Class.TheVariants.{Digit, Label, Name, Visible}
use Rattle.octets.specs.Classes.{has}
use Rattle.octets.specs.Fronts.{and_then, after, front, past}
use Rattle.octets.specs.Numbers.{number}
use Rattle.octets.specs.Answers.{Answer, Read, Fault}

-- 1 to 63 bytes; no hyphen is first or last
abbrev pub label_ok : List ℕ → Bool
label_ok l = nat_lt 0 (length l) && (nat_le (length l) 63 && (not (slice_index l 0 == 45) && not (slice_index l (length l - 1) == 45)))

-- the end, or a dot and then what f takes
abbrev pub dot_then : (List ℕ → Bool) → Option (List ℕ) → List ℕ → Bool
dot_then f None s = length s == 0
dot_then f (Some t) s = f t

-- 1 to k labels with dots between
unfoldable pub labels : ℕ → List ℕ → Bool
labels zero s = false
labels (suc k) s = label_ok (front (has Label) s) && dot_then (labels k) (after (codes ".") (past (has Label) s)) (past (has Label) s)

-- 1 to 65,535 without leading zeros
abbrev pub port : List ℕ → Option ℕ
port [] = None
port (d ∷ ds) = cond (d == 48) None (number 65535 0 (d ∷ ds))

-- the port after a colon; 443 where there is none
abbrev pub port_from : Option (List ℕ) → List ℕ → Option (ℕ × List ℕ)
port_from None s = Some (443, s)
port_from (Some t) s = and_then (port (front (has Digit) t)) (λ n. Some (n, past (has Digit) t))

-- the port at the front, and what follows
abbrev pub port_then : List ℕ → Option (ℕ × List ℕ)
port_then s = port_from (after (codes ":") s) s

abbrev pub host_then : List ℕ → List ℕ → Option (List ℕ × ℕ × List ℕ)
host_then h s = cond (labels 8 h) (and_then (port_then s) (λ p. Some (h, p.0, p.1))) None

-- a host and a port within their rules
abbrev pub site_ok : List ℕ → ℕ → Bool
site_ok host port = labels 8 host && (nat_lt 0 port && nat_le port 65535)

-- host and port at the front, and what follows
abbrev pub site_then : List ℕ → Option (List ℕ × ℕ × List ℕ)
site_then s = and_then (after (codes "https://") s) (λ t. host_then (front (has Name) t) (past (has Name) t))

-- a path: '/', and in all up to 255 bytes from '!' to '~'
abbrev pub path_ok : List ℕ → Bool
path_ok s = nat_lt 0 (length s) && (nat_le (length s) 255 && (slice_index s 0 == 47 && prefix_len (has Visible) s == length s))

-- an address is a host, a port and a path
abbrev pub path_from : Option (List ℕ × ℕ × List ℕ) → Answer (List ℕ × ℕ × List ℕ)
path_from None = Fault 1
path_from (Some a) = cond (path_ok a.2) (Read a) (Fault 1)

abbrev pub read_address : List ℕ → Answer (List ℕ × ℕ × List ℕ)
read_address s = path_from (site_then s)

-- a site is a host and a port
abbrev pub end_from : Option (List ℕ × ℕ × List ℕ) → Option (List ℕ × ℕ)
end_from None = None
end_from (Some a) = cond (length a.2 == 0) (Some (a.0, a.1)) None

abbrev pub read_site : List ℕ → Option (List ℕ × ℕ)
read_site s = end_from (site_then s)
