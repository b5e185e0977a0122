-- Laws of turns.
use Rattle.std.specs.Prelude.{◌≡◌, ℕ, ◌+◌, List, ◌∷◌, length, take, drop}
use Rattle.scripts.specs.declared.Step.{Step}
use Rattle.machine.specs.declared.Told.{Told}
use Rattle.machine.specs.declared.Machine.{Machine}
use Rattle.machine.specs.declared.Outcome.TheVariants.{Paused, Idle}
use Rattle.machine.specs.Turn.{turned, turn_in, turn_of, fault_number, kind_of, site_of, code_of, bytes_of, room, placed, hears}

-- the numbers of what is told are in the first four registers, its bytes at the front of the memory, and the rest stays
abbrev pub Tells : Type 0
Tells =
    (told : Told) (bs : List ℕ) (m : Machine) (s : List ℕ) → length m.registers ≡ 32
    → ((hears told bs m s).registers
    ≡ kind_of told ∷ room (bytes_of told bs) s ∷ site_of told ∷ code_of told ∷ drop 4 m.registers)
    × (take (room bs s) (placed bs s) ≡ take (room bs s) bs) × (drop (room bs s) (placed bs s) ≡ drop (room bs s) s)

-- a turn that is cut after j steps and goes on for k is one turn of j + k steps, whatever it is told meanwhile
abbrev pub Resumes : Type 0
Resumes =
    (j k sites : ℕ) (script : List Step) (told later : Told) (bs cs : List ℕ) (m : Machine) (s : List ℕ)
    → (turn_in j sites script told bs m s).outcome ≡ Paused
    → turn_in k sites script later cs (turn_in j sites script told bs m s).machine (turn_in j sites script told bs m s).memory
    ≡ turn_in (j + k) sites script told bs m s

-- after fault 4 a script does nothing, whatever it is told, and stays as it is
abbrev pub Ends : Type 0
Ends =
    (sites : ℕ) (script : List Step) (told later : Told) (bs cs : List ℕ) (m : Machine) (s : List ℕ)
    → fault_number (turn_of sites script told bs m s).outcome ≡ 4
    → turn_of sites script later cs (turn_of sites script told bs m s).machine (turn_of sites script told bs m s).memory
    ≡ turned Idle (turn_of sites script told bs m s).machine (turn_of sites script told bs m s).memory
