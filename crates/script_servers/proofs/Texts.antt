-- Texts that are written to a room, all or nothing.
use Rattle.std.proofs.Common.{◌≡◌, ℕ, ◌≤◌, Bool, true, false, cond, leb, List, [], ◌++◌, length, take, drop, Some, None, Option, sym, refl, ap, ◌∙◌, arith, length-append}
use Rattle.std.specs.Option.{unwrap_or}
use Rattle.std.proofs.lemmas.List.{take_at}
use Rattle.octets.specs.Buffers.{written, count}
use Rattle.servers.specs.Answering.{fitting}
use Rattle.script_servers.specs.Rooms.{taken}

-- both ways give the same
both : {X : Type 0} (b : Bool) (x : X) → cond b x x ≡ x
both true x = refl
both false x = refl

abbrev size_of : Option ℕ → ℕ
size_of o = unwrap_or o 0

sized : (b : Bool) (n : ℕ) → size_of (cond b (Some n) None) ≡ cond b n 0
sized true n = refl
sized false n = refl

-- a text that is written only where something holds is else none
only-size : (b : Bool) (t room : List ℕ) → size_of (cond b (count t room) None) ≡ taken (cond b t []) room
only-size true t room = sized (leb (length t) (length room)) (length t)
only-size false t room = sym (both (leb 0 (length room)) 0)

pub only-count : (b : Bool) (t room : List ℕ) (o : Option ℕ) → o ≡ cond b (count t room) None → size_of o ≡ taken (cond b t []) room
only-count b t room o e = ap size_of e ∙ only-size b t room

pub only-room : (b : Bool) (t room : List ℕ) → cond b (written t room) room ≡ written (cond b t []) room
only-room true t room = refl
only-room false t room = sym (both (leb 0 (length room)) room)

-- what was written is at the front, and within the room

within_by : (b : Bool) (t room : List ℕ) → cond b (length t) 0 ≤ length (cond b (t ++ drop (length t) room) room)
within_by true t room = simp length-append (omega arith)
within_by false t room = omega arith

taken-within : (t room : List ℕ) → taken t room ≤ length (written t room)
taken-within t room = within_by (leb (length t) (length room)) t room

front_by : (b : Bool) (t room : List ℕ) → take (cond b (length t) 0) (cond b (t ++ drop (length t) room) room) ≡ cond b t []
front_by true t room = take_at t (drop (length t) room) (length t) refl
front_by false t room = refl

taken-front : (t room : List ℕ) → take (taken t room) (written t room) ≡ fitting (length room) t
taken-front t room = front_by (leb (length t) (length room)) t room

-- nothing is written
pub nothing-fits : (n : ℕ) → [] ≡ fitting n []
nothing-fits n = sym (both (leb 0 n) [])

-- so many bytes of a room to which a text was written
module _ (t room out : List ℕ) (n : ℕ) (p : n ≡ taken t room) (q : out ≡ written t room) where
  pub written-within : n ≤ length out
  written-within = omega (arith, p, ap length q, taken-within t room)

  pub written-front : take n out ≡ fitting (length room) t
  written-front = (λ i. take (p i) (q i)) ∙ taken-front t room
