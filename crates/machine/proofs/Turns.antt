-- Turns that are cut and go on, and turns after the end.
use Rattle.std.proofs.Common.{◌≡◌, ℕ, zero, suc, ◌+◌, ◌≤◌, Bool, true, false, cond, List, [], ◌∷◌, length, take, drop, set, Some, None, Ok, Err, sym, refl, ap, ◌∙◌, suc-add, zero-add, arith}
use Rattle.std.proofs.lemmas.List.{length-take-le, take_at, drop_at}
use Rattle.scripts.specs.declared.Step.{Step}
use Rattle.machine.specs.declared.Act.{Act}
use Rattle.machine.specs.declared.Told.{Told}
use Rattle.machine.specs.declared.Machine.{Machine}
use Rattle.machine.specs.declared.Status.{Status}
use Rattle.machine.specs.declared.Status.TheVariants.{Waiting, Running, Ended}
use Rattle.machine.specs.declared.Outcome.TheVariants.{Did, Refused, Paused}
use Rattle.machine.specs.Limits.{allowed}
use Rattle.machine.specs.Step.{Flow, After, step_of}
use Rattle.machine.specs.Turn.{while_on, runs, hears, room, placed, bytes_of, end_by, end_of, turn_by, turn_in, turn_of, fault_number}
use Rattle.machine.specs.Laws.{Tells, Resumes, Ends}
use Rattle.machine.proofs.Sound.{runs_sound}

-- k steps more, where a run goes on
abbrev further : List Step → ℕ → After → After
further script k x = while_on x.flow (runs script k x.machine x.memory) x

cut : (script : List Step) (k : ℕ) (flow : Flow) (x y : After) → x.flow ≡ flow → while_on flow (further script k y) x ≡ further script k (while_on flow y x)
cut script k (Ok None) x y e = refl
cut script k (Ok (Some a)) x y e = ap (λ f. while_on f (runs script k x.machine x.memory) x) (sym e)
cut script k (Err out) x y e = ap (λ f. while_on f (runs script k x.machine x.memory) x) (sym e)

-- a run that is cut and goes on is the uncut run
runs_on : (script : List Step) (j k : ℕ) (m : Machine) (s : List ℕ) → runs script (j + k) m s ≡ further script k (runs script j m s)
unfolding runs
runs_on script zero k m s = ap (λ n. runs script n m s) (zero-add k)
runs_on script (suc j) k m s =
    let x = step_of script m s in
    ap (λ n. runs script n m s) (suc-add j k)
    ∙ ap (λ y. while_on x.flow y x) (runs_on script j k x.machine x.memory)
    ∙ cut script k x.flow x (runs script j x.machine x.memory) refl

-- what a wait gives is no pause and no end
done-not : (b : Bool) (a : Act) → (cond b (Did a) Refused ≡ Paused → ⊥) × (fault_number (cond b (Did a) Refused) ≡ 4 → ⊥)
done-not true a = (λ e. let z : ◌≡◌ {A = ℕ} 0 1 = cc in omega arith, λ e. omega arith)
done-not false a = (λ e. let z : ◌≡◌ {A = ℕ} 0 1 = cc in omega arith, λ e. omega arith)

module _ (k sites : ℕ) (script : List Step) (later : Told) (cs : List ℕ) where
  goes_on : (flow : Flow) (y : After) → y.machine.status ≡ Running → (end_by flow sites y.machine y.memory).outcome ≡ Paused → turn_in k sites script later cs (end_by flow sites y.machine y.memory).machine (end_by flow sites y.machine y.memory).memory ≡ end_of sites (while_on flow (runs script k y.machine y.memory) y)
  goes_on (Ok None) y run e = ap (λ st. turn_by st k sites script later cs y.machine y.memory) run
  goes_on (Ok (Some a)) y run e = absurd ((done-not (allowed a sites y.memory) a).0 e)
  goes_on (Err out) y run e = let z : ◌≡◌ {A = ℕ} 0 1 = cc in absurd (omega arith)

  run_resumes : (j : ℕ) (m : Machine) (s : List ℕ) → m.status ≡ Running → (end_of sites (runs script j m s)).outcome ≡ Paused → turn_in k sites script later cs (end_of sites (runs script j m s)).machine (end_of sites (runs script j m s)).memory ≡ end_of sites (runs script (j + k) m s)
  run_resumes j m s run e =
      let y = runs script j m s in
      goes_on y.flow y ((runs_sound script j m s).status ∙ run) e ∙ ap (end_of sites) (sym (runs_on script j k m s))

resumes_by : (status : Status) (j k sites : ℕ) (script : List Step) (told later : Told) (bs cs : List ℕ) (m : Machine) (s : List ℕ) → m.status ≡ status → (turn_by status j sites script told bs m s).outcome ≡ Paused → turn_in k sites script later cs (turn_by status j sites script told bs m s).machine (turn_by status j sites script told bs m s).memory ≡ turn_by status (j + k) sites script told bs m s
resumes_by Ended j k sites script told later bs cs m s is e = let z : ◌≡◌ {A = ℕ} 0 1 = cc in absurd (omega arith)
resumes_by Running j k sites script told later bs cs m s is e = run_resumes k sites script later cs j m s is e
resumes_by Waiting j k sites script told later bs cs m s is e =
    run_resumes k sites script later cs j (hears told bs m s) (placed (bytes_of told bs) s) refl e

pub resumes : Resumes
resumes j k sites script told later bs cs m s e = resumes_by m.status j k sites script told later bs cs m s refl e

ended : (flow : Flow) (sites : ℕ) (m : Machine) (s : List ℕ) → fault_number (end_by flow sites m s).outcome ≡ 4 → (end_by flow sites m s).machine.status ≡ Ended
ended (Ok None) sites m s e = absurd (omega arith)
ended (Ok (Some a)) sites m s e = absurd ((done-not (allowed a sites s) a).1 e)
ended (Err out) sites m s e = refl

ends_by : (status : Status) (k sites : ℕ) (script : List Step) (told : Told) (bs : List ℕ) (m : Machine) (s : List ℕ) → fault_number (turn_by status k sites script told bs m s).outcome ≡ 4 → (turn_by status k sites script told bs m s).machine.status ≡ Ended
ends_by Ended k sites script told bs m s e = absurd (omega arith)
ends_by Running k sites script told bs m s e =
    let x = runs script k m s in
    ended x.flow sites x.machine x.memory e
ends_by Waiting k sites script told bs m s e =
    let x = runs script k (hears told bs m s) (placed (bytes_of told bs) s) in
    ended x.flow sites x.machine x.memory e

pub ends : Ends
ends sites script told later bs cs m s e =
    ap
    (λ st. turn_by st 10000 sites script later cs (turn_of sites script told bs m s).machine (turn_of sites script told bs m s).memory)
    (ends_by m.status 10000 sites script told bs m s e)

first_four : (rs : List ℕ) (a b c d : ℕ) → 4 ≤ length rs → set (set (set (set rs 0 a) 1 b) 2 c) 3 d ≡ a ∷ b ∷ c ∷ d ∷ drop 4 rs
first_four [] a b c d h = absurd (omega arith)
first_four (w ∷ []) a b c d h = absurd (omega arith)
first_four (w ∷ x ∷ []) a b c d h = absurd (omega arith)
first_four (w ∷ x ∷ y ∷ []) a b c d h = absurd (omega arith)
first_four (w ∷ x ∷ y ∷ z ∷ rs) a b c d h = refl

pub tells : Tells
tells told bs m s full =
    let n = room bs s in
    let front : length (take n bs) ≡ n = length-take-le n bs (omega arith) in
    (first_four m.registers _ _ _ _ (omega arith), take_at (take n bs) (drop n s) n front, drop_at (take n bs) (drop n s) n front)
