-- Turns that are played one by one.
use Rattle.std.proofs.Common.{◌≡◌, ℕ, suc, ◌+◌, List, sym, ap, ◌∙◌, arith}
use Rattle.scripts.specs.declared.Step.{Step}
use Rattle.machine.specs.declared.Machine.{Machine}
use Rattle.machine.specs.declared.Outcome.{Outcome}
use Rattle.machine.specs.declared.Told.TheVariants.{Heard}
use Rattle.machine.specs.Turn.{Turned, turned, turn_of}
use Rattle.machine_export.specs.Plays.{counts, Played, played, counted, plays}

-- one turn more is played
pub plays-more : (k fewer : ℕ) (script : List Step) (bs : List ℕ) (done n : ℕ) (o : Outcome) (m m' : Machine) (s s' : List ℕ) → fewer + 1 ≡ k → turned o m' s' ≡ turn_of 16 script (Heard 0) bs m s → n ≡ counts o → plays fewer script bs (played (done + n) m' s') ≡ plays k script bs (played done m s)
unfolding plays
plays-more k fewer script bs done n o m m' s s' h e f =
    let one : k ≡ suc fewer = omega arith in
    ap (λ c. plays fewer script bs (played (done + c) m' s')) f
    ∙ ap (λ (x : Turned). plays fewer script bs (counted done x)) e
    ∙ ap (λ j. plays j script bs (played done m s)) (sym one)

pub plays-none : (k : ℕ) (script : List Step) (bs : List ℕ) (x : Played) → k ≡ 0 → x ≡ plays k script bs x
unfolding plays
plays-none k script bs x e = ap (λ j. plays j script bs x) (sym e)
