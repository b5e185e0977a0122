-- What is said of streams.
use Rattle.std.specs.Prelude.{ℕ, ◌≤◌, List, Some, None, Ok, Err, codes, Option, Result}
use Rattle.pipes.specs.declared.fault.Fault.{Fault}
use Rattle.pipes.specs.declared.fault.Fault.TheVariants.{Output, Input, Head, Site}

-- A fault, for people.
abbrev pub fault_text : Fault → List ℕ
fault_text Output = codes "a frame can't be written"
fault_text Input = codes "the input can't be read"
fault_text Head = codes "what came is no frame that is due"
fault_text Site = codes "what came is a frame of another site"

-- At most n bytes were read, if any were.
abbrev pub Within : {E : Type 0} → Result ℕ E → ℕ → Type 0
Within (Ok k) n = k ≤ n
Within (Err e) n = Unit {0}

-- The same, where what is too long is passed over.
abbrev pub WithinSome : {E : Type 0} → Result (Option ℕ) E → ℕ → Type 0
WithinSome (Ok None) n = Unit {0}
WithinSome (Ok (Some k)) n = k ≤ n
WithinSome (Err e) n = Unit {0}
