-- What noting an entry does to a book whose lines are written.
use Rattle.std.specs.Prelude.{◌≡◌, ℕ, ◌+◌, Bool, true, false, cond, not, ◌&&◌, List, nat_lt}
use Rattle.book.specs.Records.{Entry}
use Rattle.book.specs.Lines.{line_text}

-- Was the line taken, and is there a number after its own?
abbrev pub goes_on : Bool → ℕ → Bool
goes_on taken next = taken && nat_lt next 18446744073709551615

-- What may happen to the sink, the next number, and whether one was not taken: before, the entry, and after.
pub record Lined {S : Type 0} (puts : S → List ℕ → Bool → S → Type 0) (sink : S) (next : ℕ) (failed : Bool) (e : Entry) (sink' : S) (next' : ℕ) (failed' : Bool) : Type 0 where
  -- after a failure nothing is put any more
  pub kept : failed ≡ true → (sink' ≡ sink) × (next' ≡ next) × (failed' ≡ true)
  -- else the line of the next number is put, and the number goes up if it was taken
  pub put : failed ≡ false → (taken : Bool) × puts sink (line_text next e) taken sink' × (next' ≡ cond (goes_on taken next) (next + 1) next) × (failed' ≡ not (goes_on taken next))
