-- A book in memory.
use Rattle.std.specs.Prelude.{◌≡◌, ℕ, Bool, false, cond, not, ◌||◌, List, [], ◌∷◌, ◌++◌, map, vec_items, vec_len, nat_lt}
use Rattle.book.specs.Records.{Entry, entry_of}
use Rattle.runs.specs.declared.notes.MemoryBook.{MemoryBook}

-- Its entries, in order.
abbrev pub entries_of : MemoryBook → List Entry
entries_of x = map entry_of (vec_items x.records)

-- Is there room for one more?
abbrev pub has_room : MemoryBook → Bool
has_room x = nat_lt (vec_len x.records) x.room

-- One entry more, if there is room; else it is remembered that one was missed.
pub record Noted (x : MemoryBook) (entry : Entry) (y : MemoryBook) : Type 0 where
  pub entries : entries_of y ≡ cond (has_room x) (entries_of x ++ (entry ∷ [])) (entries_of x)
  pub missed : y.missed ≡ (x.missed || not (has_room x))
  pub room : y.room ≡ x.room

-- Nothing is noted yet.
pub record Empty (room : ℕ) (x : MemoryBook) : Type 0 where
  pub entries : entries_of x ≡ []
  pub missed : x.missed ≡ false
  pub room_so : x.room ≡ room
