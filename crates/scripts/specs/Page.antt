-- Page files: `PAGE 1`, a count of two bytes, and so many steps of eight bytes, numbers with their highest byte first.
use Rattle.std.specs.Prelude.{◌≡◌, ℕ, zero, suc, ◌+◌, ◌*◌, ◌/◌, ◌%◌, Bool, cond, ◌&&◌, List, [], ◌∷◌, ◌++◌, length, take, drop, Some, None, Ok, Err, Option, Result, ◌==◌, nat_le, nat_lt, slice_index}
use Rattle.std.specs.List.{flat_map}
use Rattle.scripts.specs.declared.Step.{Step}
use Rattle.scripts.specs.declared.Step.TheVariants.{Constant, Move, Sum, Product, Equal, Less, Jump, JumpIf, Load, Store, Wait}
use Rattle.scripts.specs.declared.Call.{Call}
use Rattle.scripts.specs.declared.Call.TheVariants.{Nothing, Ask, Say, Keep, Look, Open}
use Rattle.scripts.specs.declared.Unreadable.{Unreadable}
use Rattle.scripts.specs.declared.Unreadable.TheVariants.{OtherKind, Cut, TooLong, LeftOver, UnknownStep}

-- the number of a fault in reading a page
abbrev pub fault_number : Unreadable → ℕ
fault_number OtherKind = 3
fault_number Cut = 3
fault_number TooLong = 3
fault_number LeftOver = 3
fault_number UnknownStep = 3

-- what a wait asks for, by its number and its three places
abbrev pub call_by : ℕ → ℕ → ℕ → ℕ → Option Call
call_by number a b c =
    cond (number == 0) (Some Nothing)
    (cond (number == 1) (Some (Ask a b c))
    (cond (number == 2) (Some (Say a b c))
    (cond (number == 3) (Some (Keep a))
    (cond (number == 4) (Some Look)
    (cond (number == 5) (Some (Open a b)) None)))))

-- a wait for a known call
abbrev pub wait_for : Option Call → Option Step
wait_for None = None
wait_for (Some call) = Some (Wait call)

-- a step by its kind, its three places and its number
abbrev pub step_by : ℕ → ℕ → ℕ → ℕ → ℕ → Option Step
step_by kind a b c number =
    cond (kind == 0) (Some (Constant a number))
    (cond (kind == 1) (Some (Move a b))
    (cond (kind == 2) (Some (Sum a b c))
    (cond (kind == 3) (Some (Product a b c))
    (cond (kind == 4) (Some (Equal a b c))
    (cond (kind == 5) (Some (Less a b c))
    (cond (kind == 6) (Some (Jump number))
    (cond (kind == 7) (Some (JumpIf a number))
    (cond (kind == 8) (Some (Load a b))
    (cond (kind == 9) (Some (Store a b))
    (cond (kind == 10) (wait_for (call_by number a b c)) None))))))))))

-- four bytes as a number
abbrev pub word : ℕ → ℕ → ℕ → ℕ → ℕ
word w x y z = w * 16777216 + x * 65536 + y * 256 + z

-- the step that eight bytes are
abbrev pub step_in : List ℕ → Option Step
step_in bs =
    step_by (slice_index bs 0) (slice_index bs 1) (slice_index bs 2) (slice_index bs 3)
    (word (slice_index bs 4) (slice_index bs 5) (slice_index bs 6) (slice_index bs 7))

-- the bytes of a step by its kind, its three places and its number
abbrev pub row : ℕ → ℕ → ℕ → ℕ → ℕ → List ℕ
row kind a b c number =
    kind ∷ a ∷ b ∷ c ∷ (number / 16777216 % 256) ∷ (number / 65536 % 256) ∷ (number / 256 % 256) ∷ (number % 256) ∷ []

-- the bytes of a wait
abbrev pub call_bytes : Call → List ℕ
call_bytes Nothing = row 10 0 0 0 0
call_bytes (Ask site path body) = row 10 site path body 1
call_bytes (Say window site bytes) = row 10 window site bytes 2
call_bytes (Keep bytes) = row 10 bytes 0 0 3
call_bytes Look = row 10 0 0 0 4
call_bytes (Open site path) = row 10 site path 0 5

-- the bytes of a step; places and numbers that it does not use are 0
abbrev pub step_bytes : Step → List ℕ
step_bytes (Constant a number) = row 0 a 0 0 number
step_bytes (Move a b) = row 1 a b 0 0
step_bytes (Sum a b c) = row 2 a b c 0
step_bytes (Product a b c) = row 3 a b c 0
step_bytes (Equal a b c) = row 4 a b c 0
step_bytes (Less a b c) = row 5 a b c 0
step_bytes (Jump number) = row 6 0 0 0 number
step_bytes (JumpIf a number) = row 7 a 0 0 number
step_bytes (Load a b) = row 8 a b 0 0
step_bytes (Store a b) = row 9 a b 0 0
step_bytes (Wait call) = call_bytes call

-- whether the bytes begin with `PAGE 1`
abbrev pub is_page : List ℕ → Bool
is_page bs =
    nat_le 6 (length bs)
    && ((slice_index bs 0 == 80 && slice_index bs 1 == 65)
    && ((slice_index bs 2 == 71 && slice_index bs 3 == 69) && (slice_index bs 4 == 32 && slice_index bs 5 == 49)))

-- how many steps the head says that there are
abbrev pub count_in : List ℕ → ℕ
count_in bs = slice_index bs 6 * 256 + slice_index bs 7

-- so many steps in a file of so many bytes: at most 2,000, and nothing missing or left over
abbrev pub sized : ℕ → ℕ → Result ℕ Unreadable
sized count size =
    cond (nat_lt 2000 count) (Err TooLong)
    (cond (nat_lt size (8 + count * 8)) (Err Cut)
    (cond (nat_lt (8 + count * 8) size) (Err LeftOver) (Ok count)))

-- how many steps a page file has
abbrev pub head_in : List ℕ → Result ℕ Unreadable
head_in bs = cond (is_page bs) (cond (nat_lt (length bs) 8) (Err Cut) (sized (count_in bs) (length bs))) (Err OtherKind)

-- one step before the others
abbrev pub before : Option Step → Result (List Step) Unreadable → Result (List Step) Unreadable
before None rest = Err UnknownStep
before (Some step) (Err fault) = Err fault
before (Some step) (Ok steps) = Ok (step ∷ steps)

-- so many steps of eight bytes
unfoldable pub steps_in : ℕ → List ℕ → Result (List Step) Unreadable
steps_in zero bs = Ok []
steps_in (suc count) bs = before (step_in (take 8 bs)) (steps_in count (drop 8 bs))

-- the steps after a head that could be read
abbrev pub body_in : Result ℕ Unreadable → List ℕ → Result (List Step) Unreadable
body_in (Err fault) bs = Err fault
body_in (Ok count) bs = steps_in count bs

-- the steps of a page file, or why it cannot be read
abbrev pub page_in : List ℕ → Result (List Step) Unreadable
page_in bs = body_in (head_in bs) (drop 8 bs)

-- the head of the page file of so many steps
abbrev pub head_of : ℕ → List ℕ
head_of count = 80 ∷ 65 ∷ 71 ∷ 69 ∷ 32 ∷ 49 ∷ (count / 256 % 256) ∷ (count % 256) ∷ []

-- the page file of a script
abbrev pub page_of : List Step → List ℕ
page_of steps = head_of (length steps) ++ flat_map step_bytes steps

-- a buffer after bytes were written to its front; nothing is written where they do not fit
abbrev pub written : List ℕ → List ℕ → List ℕ
written bs buffer = cond (nat_le (length bs) (length buffer)) (bs ++ drop (length bs) buffer) buffer

-- how many bytes were written to a buffer
abbrev pub written_size : List ℕ → List ℕ → Option ℕ
written_size bs buffer = cond (nat_le (length bs) (length buffer)) (Some (length bs)) None

-- what was written to a buffer is read as these steps
abbrev pub ReadBack : Option ℕ → List ℕ → List Step → Type 0
ReadBack None buffer steps = Unit {0}
ReadBack (Some size) buffer steps = page_in (take size buffer) ≡ Ok steps
