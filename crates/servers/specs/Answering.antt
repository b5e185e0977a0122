-- Answers in a room of so many bytes. Assumes nothing.
use Rattle.std.specs.Prelude.{◌≡◌, ℕ, cond, List, [], length, nat_le}
use Rattle.pages.specs.Browser.{at}

-- an answer that does not fit into the room is no bytes at all
abbrev pub fitting : ℕ → List ℕ → List ℕ
fitting room bs = cond (nat_le (length bs) room) bs []

-- One exchange with servers that do so: the answer and the next state are the asked server's, and no other server's state changes.
pub record Exact {R : Type 0} (serving : ℕ → List ℕ → R → List ℕ × R) (states : ℕ → R) (room site : ℕ) (request answer : List ℕ) (after : ℕ → R) : Type 0 where
  pub answered : answer ≡ fitting room (serving site request (states site)).0
  pub moved : after ≡ at site (serving site request (states site)).1 states
