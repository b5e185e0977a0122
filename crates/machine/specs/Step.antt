-- One step of the machine that runs scripts.
use Rattle.std.specs.Prelude.{ℕ, ◌+◌, ◌*◌, ◌%◌, ◌^◌, Bool, cond, ◌&&◌, List, length, Some, None, Ok, Err, Option, Result, ◌==◌, nat_le, nat_lt, slice_index, slice_index_or, slice_set}
use Rattle.scripts.specs.declared.Step.{Step}
use Rattle.scripts.specs.declared.Step.TheVariants.{Constant, Move, Sum, Product, Equal, Less, Jump, JumpIf, Load, Store, Wait}
use Rattle.scripts.specs.declared.Call.{Call}
use Rattle.scripts.specs.declared.Call.TheVariants as call
use Rattle.machine.specs.declared.Span.{Span}
use Rattle.machine.specs.declared.Act.{Act}
use Rattle.machine.specs.declared.Act.TheVariants as act
use Rattle.machine.specs.declared.OutOfRange.{OutOfRange}
use Rattle.machine.specs.declared.Machine.{Machine}

-- how a step, or a run of steps, went
abbrev pub Flow : Type 0
Flow = Result (Option Act) OutOfRange

-- on to the next step
abbrev pub on : Flow
on = Ok None

-- to a fault: a register, a place of the memory or a step that is not there
abbrev pub faults : Flow
faults = Err (record {})

-- what a step leaves: how it went, the machine and the memory
pub record After : Type 0 where
  pub flow : Flow
  pub machine : Machine
  pub memory : List ℕ

-- one such, from its parts
abbrev pub after : Flow → Machine → List ℕ → After
after flow m s = record { flow = flow; machine = m; memory = s }

-- what a register holds
abbrev pub register : Machine → ℕ → ℕ
register m a = slice_index m.registers a

-- the number in a register, if there is such a one
abbrev pub number_at : Machine → ℕ → Option ℕ
number_at m a = cond (nat_lt a 32) (Some (register m a)) None

-- the numbers in two registers
abbrev pub pair_at : Machine → ℕ → ℕ → Option (ℕ × ℕ)
pair_at m a b = cond (nat_lt a 32 && nat_lt b 32) (Some (register m a, register m b)) None

-- the part of a memory of so many bytes that two neighbouring registers name: from where, and how long
abbrev pub span_at : Machine → ℕ → ℕ → Option Span
span_at m size a =
    cond (nat_lt a 31 && nat_le (register m a + register m (a + 1)) size)
    (Some (record { from = register m a; len = register m (a + 1) })) None

-- what comes next, where there is something to go on with
abbrev pub and_then : {X : Type 0} → Option X → (X → Option Act) → Option Act
and_then None f = None
and_then (Some x) f = f x

-- the act that a wait names, by the registers and the size of the memory
abbrev pub act_at : Call → Machine → ℕ → Option Act
act_at call.Nothing m size = Some act.Nothing
act_at (call.Ask site path body) m size =
    and_then (number_at m site) (λ n. and_then (span_at m size path) (λ p. and_then (span_at m size body) (λ b. Some (act.Ask n p b))))
act_at (call.Say window site bytes) m size =
    and_then (number_at m window) (λ w. and_then (number_at m site) (λ n. and_then (span_at m size bytes) (λ b. Some (act.Say w n b))))
act_at (call.Keep bytes) m size = and_then (span_at m size bytes) (λ b. Some (act.Keep b))
act_at call.Look m size = Some act.Look
act_at (call.Open site path) m size = and_then (number_at m site) (λ n. and_then (span_at m size path) (λ p. Some (act.Open n p)))

-- a wait for an act that could be named
abbrev pub waits : Option Act → Flow
waits None = faults
waits (Some x) = Ok (Some x)

-- 1 for what holds, 0 for what does not
abbrev pub bit : Bool → ℕ
bit b = cond b 1 0

-- a register gets a number
abbrev pub assign : ℕ → ℕ → Machine → Machine
assign a x m = record { registers = slice_set m.registers a x; next = m.next; status = m.status }

-- the step at n is the next one
abbrev pub goto : ℕ → Machine → Machine
goto n m = record { registers = m.registers; next = n; status = m.status }

-- what a step leaves that has nothing to do with the memory
pub record Moved : Type 0 where
  pub flow : Flow
  pub machine : Machine

-- one such, from its parts
abbrev pub moved : Flow → Machine → Moved
moved flow m = record { flow = flow; machine = m }

-- with the memory as it was
abbrev pub beside : Moved → List ℕ → After
beside x s = after x.flow x.machine s

-- register a gets a number, if there is such a one
abbrev pub assigns : ℕ → ℕ → Machine → Moved
assigns a x m = cond (nat_lt a 32) (moved on (assign a x m)) (moved faults m)

-- a jump in a script of so many steps
abbrev pub jumps : ℕ → ℕ → Machine → Moved
jumps to count m = cond (nat_lt to count) (moved on (goto to m)) (moved faults m)

-- register a gets what two registers give
abbrev pub combines : ℕ → Option (ℕ × ℕ) → (ℕ → ℕ → ℕ) → Machine → List ℕ → After
combines a None f m s = after faults m s
combines a (Some xy) f m s = beside (assigns a (f xy.0 xy.1) m) s

-- register a gets what another gives
abbrev pub copies : ℕ → Option ℕ → Machine → List ℕ → After
copies a None m s = after faults m s
copies a (Some x) m s = beside (assigns a x m) s

-- a jump if a number is not zero
abbrev pub jumps_if : Option ℕ → ℕ → ℕ → Machine → List ℕ → After
jumps_if None count n m s = after faults m s
jumps_if (Some x) count n m s = cond (x == 0) (after on m s) (beside (jumps n count m) s)

-- register a gets a byte of the memory
abbrev pub loads : ℕ → Option ℕ → Machine → List ℕ → After
loads a None m s = after faults m s
loads a (Some at) m s = cond (nat_lt at (length s)) (beside (assigns a (slice_index s at) m) s) (after faults m s)

-- a place of the memory gets the low byte of a number
abbrev pub stores : Option (ℕ × ℕ) → Machine → List ℕ → After
stores None m s = after faults m s
stores (Some xy) m s = cond (nat_lt xy.0 (length s)) (after on m (slice_set s xy.0 (xy.1 % 256))) (after faults m s)

-- what a step does, in a script of so many
abbrev pub effect : ℕ → Step → Machine → List ℕ → After
effect count (Constant a n) m s = beside (assigns a n m) s
effect count (Move a b) m s = copies a (number_at m b) m s
effect count (Sum a b c) m s = combines a (pair_at m b c) (λ x y. (x + y) % 2 ^ 32) m s
effect count (Product a b c) m s = combines a (pair_at m b c) (λ x y. (x * y) % 2 ^ 32) m s
effect count (Equal a b c) m s = combines a (pair_at m b c) (λ x y. bit (x == y)) m s
effect count (Less a b c) m s = combines a (pair_at m b c) (λ x y. bit (nat_lt x y)) m s
effect count (Jump n) m s = beside (jumps n count m) s
effect count (JumpIf a n) m s = jumps_if (number_at m a) count n m s
effect count (Load a b) m s = loads a (number_at m b) m s
effect count (Store a b) m s = stores (pair_at m a b) m s
effect count (Wait call) m s = after (waits (act_at call m (length s))) m s

-- the next step of a script: one after the last is a fault
abbrev pub step_of : List Step → Machine → List ℕ → After
step_of script m s =
    cond (nat_lt m.next (length script))
    (effect (length script) (slice_index_or script m.next (Jump 0)) (goto (m.next + 1) m) s) (after faults m s)
