-- A line at the front of its room.
use Rattle.std.proofs.Common.{◌≡◌, ℕ, ◌-◌, ◌≤◌, true, cond, leb, List, ◌++◌, length, take, drop, Some, None, ap, ◌∙◌, arith}
use lib.Seq.{take-append_seam}
use Rattle.std.proofs.lemmas.Bool.{cond-true, le-leb}
use Rattle.octets.proofs.Options.{some_same}

-- what was written into a room that suffices is its front
pub front : (line room after : List ℕ) (k : ℕ) → 17000 ≤ length room → Some k ≡ cond (leb 17000 (length room)) (Some (length line)) None → after ≡ cond (leb 17000 (length room)) (line ++ drop (length line) room) room → take (k - 0) after ≡ line
front line room after k h a b =
    let t : leb 17000 (length room) ≡ true = le-leb 17000 (length room) h in
    let e : k ≡ length line = some_same k (length line) (a ∙ cond-true (leb 17000 (length room)) (Some (length line)) None t) in
    let z : k - 0 ≡ length line = omega arith in
    ap (λ n. take n after) z ∙ ap (take (length line)) (b ∙ cond-true (leb 17000 (length room)) (line ++ drop (length line) room) room t) ∙ take-append_seam line (drop (length line) room)
