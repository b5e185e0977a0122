-- Heads of frames, as lines of text.
use Rattle.std.specs.Prelude.{ℕ, Bool, false, cond, ◌&&◌, List, ◌++◌, length, Some, None, codes, decimal, Option, ◌==◌, nat_le}
use Rattle.octets.specs.declared.Class.TheVariants.{Visible}
use Rattle.octets.specs.Classes.{has}
use Rattle.octets.specs.Fronts.{and_then, after, front, past}
use Rattle.addresses.specs.Address.{site_ok, read_site}
use Rattle.addresses.specs.Written.{site_text}
use Rattle.words.specs.Numerals.{number_after}
use Rattle.frames.specs.declared.Kind.{Kind}
use Rattle.frames.specs.declared.Kind.TheVariants.{Request, Answer}

-- What follows: of which kind, of which site (host and port), how many bytes.
pub record Heading : Type 0 where
  pub kind : Kind
  pub site : List ℕ × ℕ
  pub len : ℕ

-- The word of a kind.
abbrev pub kind_text : Kind → List ℕ
kind_text Request = codes "request "
kind_text Answer = codes "answer "

-- THE HEAD.
abbrev pub head_text : Heading → List ℕ
head_text h = kind_text h.kind ++ (site_text h.site.0 h.site.1 ++ ((codes " " ++ decimal h.len) ++ codes "\n"))

-- Can it be written? Its site is one, and the number has at most 9 digits.
abbrev pub can_write : Heading → Bool
can_write h = site_ok h.site.0 h.site.1 && nat_le h.len 999999999

-- Does nothing follow?
abbrev pub is_last : Option (List ℕ) → Bool
is_last None = false
is_last (Some t) = length t == 0

-- A site, a space, a number, a newline.
abbrev pub head_from : Kind → List ℕ → Option Heading
head_from k s = and_then (read_site (front (has Visible) s)) (λ site. and_then (number_after (codes " ") 999999999 (past (has Visible) s)) (λ n. cond (is_last (after (codes "\n") n.1)) (Some (record { kind = k; site = site; len = n.0 })) None))

-- An answer's, where it is not a request's.
abbrev pub kind_from : Option (List ℕ) → List ℕ → Option Heading
kind_from (Some t) s = head_from Request t
kind_from None s = and_then (after (codes "answer ") s) (head_from Answer)

-- A HEAD, read.
abbrev pub read_head : List ℕ → Option Heading
read_head s = kind_from (after (codes "request ") s) s
