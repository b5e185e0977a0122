-- A text put into a room from a place on, where it fits.
use Rattle.std.specs.Prelude.{◌≡◌, ℕ, ◌+◌, ◌≤◌, List, length}
use Rattle.octets.specs.Buffers.{over}

-- If there is room, the text t stands from `at` on, and `next` is the place after it.
abbrev pub Puts : ℕ → List ℕ → List ℕ → ℕ → List ℕ → Type 0
Puts at t before next after = at + length t ≤ length before → (next ≡ at + length t) × (after ≡ over at before t)
