-- What every run keeps: the status, and that an act is named by the wait before the next step.
use Rattle.std.proofs.Common.{◌≡◌, ℕ, zero, suc, ◌+◌, ◌-◌, Bool, true, false, cond, ◌&&◌, eqb, ltb, leb, List, length, get_or, Some, None, Ok, Err, Option, sym, refl, ap, ◌∙◌, subst, arith, leb-true}
use Rattle.std.proofs.lemmas.Bool.{and_parts}
use Rattle.scripts.specs.declared.Step.{Step}
use Rattle.scripts.specs.declared.Step.TheVariants.{Constant, Move, Sum, Product, Equal, Less, Jump, JumpIf, Load, Store, Wait}
use Rattle.scripts.specs.declared.Call.{Call}
use Rattle.scripts.specs.declared.Call.TheVariants as call
use Rattle.machine.specs.declared.Span.{Span}
use Rattle.machine.specs.declared.Act.{Act}
use Rattle.machine.specs.declared.Machine.{Machine}
use Rattle.machine.specs.declared.Status.{Status}
use Rattle.machine.specs.Limits.{Inside, Within}
use Rattle.machine.specs.Step.{Flow, After, after, beside, register, number_at, pair_at, span_at, and_then, act_at, waits, goto, assigns, jumps, combines, copies, jumps_if, loads, stores, effect, step_of}
use Rattle.machine.specs.Turn.{become, while_on, runs}
use Rattle.machine.specs.Acts.{Named}

-- an act is in the memory: the bytes that its wait names are

inside_if : (b : Bool) (r span : Span) (size : ℕ) → (b ≡ true → Inside r size) → cond b (Some r) None ≡ Some span → Inside span size
inside_if true r span size h e = let same : r ≡ span = cc in subst (λ x. Inside x size) same (h refl)
inside_if false r span size h e = let z : ◌≡◌ {A = ℕ} 0 1 = cc in absurd (omega arith)

pub span_inside : (m : Machine) (size a : ℕ) (span : Span) → span_at m size a ≡ Some span → Inside span size
span_inside m size a span e =
    let fits = leb (register m a + register m (a + 1)) size in
    inside_if (ltb a 31 && fits) _ span size (λ t. leb-true _ _ (and_parts (ltb a 31) fits t).1) e

-- the part that an act needs is there
needed : {X : Type 0} (o : Option X) (f : X → Option Act) (a : Act) → and_then o f ≡ Some a → (x : X) × ((o ≡ Some x) × (f x ≡ Some a))
needed None f a e = let z : ◌≡◌ {A = ℕ} 0 1 = cc in absurd (omega arith)
needed (Some x) f a e = (x, (refl, e))

same_act : (a b : Act) (size : ℕ) → Some a ≡ Some b → Within a size → Within b size
same_act a b size e h = let same : a ≡ b = cc in subst (λ x. Within x size) same h

pub act-within : (c : Call) (m : Machine) (size : ℕ) (a : Act) → act_at c m size ≡ Some a → Within a size
act-within call.Nothing m size a e = same_act _ _ size e tt
act-within (call.Ask site path body) m size a e =
    let n = needed (number_at m site) _ a e in
    let p = needed (span_at m size path) _ a n.1.1 in
    let b = needed (span_at m size body) _ a p.1.1 in
    same_act _ _ size b.1.1 (span_inside m size path _ p.1.0, span_inside m size body _ b.1.0)
act-within (call.Say window site bytes) m size a e =
    let w = needed (number_at m window) _ a e in
    let n = needed (number_at m site) _ a w.1.1 in
    let b = needed (span_at m size bytes) _ a n.1.1 in
    same_act _ _ size b.1.1 (span_inside m size bytes _ b.1.0)
act-within (call.Keep bytes) m size a e =
    let b = needed (span_at m size bytes) _ a e in
    same_act _ _ size b.1.1 (span_inside m size bytes _ b.1.0)
act-within call.Look m size a e = same_act _ _ size e tt
act-within (call.Open site path) m size a e =
    let n = needed (number_at m site) _ a e in
    let p = needed (span_at m size path) _ a n.1.1 in
    same_act _ _ size p.1.1 (span_inside m size path _ p.1.0)

-- a flow that is no wait
abbrev Plain : Flow → Type 0
Plain (Ok None) = Unit {0}
Plain (Ok (Some a)) = ⊥
Plain (Err out) = Unit {0}

-- the act of a wait is named
abbrev pub NamedBy : Flow → List Step → Machine → List ℕ → Type 0
NamedBy (Ok None) script m s = Unit {0}
NamedBy (Ok (Some a)) script m s = Named a script m (length s)
NamedBy (Err out) script m s = Unit {0}

-- what a run from m keeps
pub record Sound (script : List Step) (m : Machine) (x : After) : Type 0 where
  pub status : x.machine.status ≡ m.status
  pub named : NamedBy x.flow script x.machine x.memory

-- a step that is no wait
abbrev Moves : Machine → After → Type 0
Moves m x = (x.machine.status ≡ m.status) × Plain x.flow

either : {X : Type 0} (P : X → Type 0) (b : Bool) (x y : X) → P x → P y → P (cond b x y)
either P true x y p q = p
either P false x y p q = q

module _ (m : Machine) (s : List ℕ) where
  assigns_moves : (a x : ℕ) → Moves m (beside (assigns a x m) s)
  assigns_moves a x = either (λ y. Moves m (beside y s)) (ltb a 32) _ _ (refl, tt) (refl, tt)

  jumps_moves : (to count : ℕ) → Moves m (beside (jumps to count m) s)
  jumps_moves to count = either (λ y. Moves m (beside y s)) (ltb to count) _ _ (refl, tt) (refl, tt)

  combines_moves : (a : ℕ) (o : Option (ℕ × ℕ)) (f : ℕ → ℕ → ℕ) → Moves m (combines a o f m s)
  combines_moves a None f = (refl, tt)
  combines_moves a (Some xy) f = assigns_moves a _

  copies_moves : (a : ℕ) (o : Option ℕ) → Moves m (copies a o m s)
  copies_moves a None = (refl, tt)
  copies_moves a (Some x) = assigns_moves a x

  jumps_if_moves : (o : Option ℕ) (count to : ℕ) → Moves m (jumps_if o count to m s)
  jumps_if_moves None count to = (refl, tt)
  jumps_if_moves (Some x) count to = either (Moves m) (eqb x 0) _ _ (refl, tt) (jumps_moves to count)

  loads_moves : (a : ℕ) (o : Option ℕ) → Moves m (loads a o m s)
  loads_moves a None = (refl, tt)
  loads_moves a (Some at) = either (Moves m) (ltb at (length s)) _ _ (assigns_moves a _) (refl, tt)

  stores_moves : (o : Option (ℕ × ℕ)) → Moves m (stores o m s)
  stores_moves None = (refl, tt)
  stores_moves (Some xy) = either (Moves m) (ltb xy.0 (length s)) _ _ (refl, tt) (refl, tt)

plain_named : (flow : Flow) (script : List Step) (m : Machine) (s : List ℕ) → Plain flow → NamedBy flow script m s
plain_named (Ok None) script m s h = tt
plain_named (Ok (Some a)) script m s h = absurd h
plain_named (Err out) script m s h = tt

moves_sound : (script : List Step) (m : Machine) (x : After) → Moves m x → Sound script m x
moves_sound script m x h = record { status = h.0; named = plain_named x.flow script x.machine x.memory h.1 }

waits-named : (script : List Step) (c : Call) (m : Machine) (s : List ℕ) (o : Option Act) → get_or script (m.next - 1) (Jump 0) ≡ Wait c → act_at c m (length s) ≡ o → NamedBy (waits o) script m s
waits-named script c m s None e f = tt
waits-named script c m s (Some a) e f = (c, (e, f))

effect_sound : (script : List Step) (count : ℕ) (step : Step) (m : Machine) (s : List ℕ) → get_or script (m.next - 1) (Jump 0) ≡ step → Sound script m (effect count step m s)
effect_sound script count (Constant a n) m s e = moves_sound script m _ (assigns_moves m s a n)
effect_sound script count (Move a b) m s e = moves_sound script m _ (copies_moves m s a (number_at m b))
effect_sound script count (Sum a b c) m s e = moves_sound script m _ (combines_moves m s a (pair_at m b c) _)
effect_sound script count (Product a b c) m s e = moves_sound script m _ (combines_moves m s a (pair_at m b c) _)
effect_sound script count (Equal a b c) m s e = moves_sound script m _ (combines_moves m s a (pair_at m b c) _)
effect_sound script count (Less a b c) m s e = moves_sound script m _ (combines_moves m s a (pair_at m b c) _)
effect_sound script count (Jump to) m s e = moves_sound script m _ (jumps_moves m s to count)
effect_sound script count (JumpIf a to) m s e = moves_sound script m _ (jumps_if_moves m s (number_at m a) count to)
effect_sound script count (Load a b) m s e = moves_sound script m _ (loads_moves m s a (number_at m b))
effect_sound script count (Store a b) m s e = moves_sound script m _ (stores_moves m s (pair_at m a b))
effect_sound script count (Wait c) m s e = record { status = refl; named = waits-named script c m s _ e refl }

step_sound : (script : List Step) (m : Machine) (s : List ℕ) → Sound script m (step_of script m s)
step_sound script m s =
    let back : m.next + 1 - 1 ≡ m.next = omega arith in
    let done = effect_sound script (length script) (get_or script m.next (Jump 0)) (goto (m.next + 1) m) s (ap (λ n. get_or script n (Jump 0)) back) in
    either (Sound script m) (ltb m.next (length script)) _ _
    (record { status = done.status; named = done.named }) (record { status = refl; named = tt })

while_on_sound : (script : List Step) (m : Machine) (flow : Flow) (more stop : After) → Sound script m stop → Sound script stop.machine more → Sound script m (while_on flow more stop)
while_on_sound script m (Ok None) more stop h k = record { status = k.status ∙ h.status; named = k.named }
while_on_sound script m (Ok (Some a)) more stop h k = h
while_on_sound script m (Err out) more stop h k = h

pub runs_sound : (script : List Step) (k : ℕ) (m : Machine) (s : List ℕ) → Sound script m (runs script k m s)
unfolding runs
runs_sound script zero m s = record { status = refl; named = tt }
runs_sound script (suc k) m s =
    let x = step_of script m s in
    while_on_sound script m x.flow _ x (step_sound script m s) (runs_sound script k x.machine x.memory)

-- what a wait names hangs on the registers alone
act-become : (status : Status) (c : Call) (m : Machine) (size : ℕ) → act_at c (become status m) size ≡ act_at c m size
act-become status call.Nothing m size = refl
act-become status (call.Ask site path body) m size = refl
act-become status (call.Say window site bytes) m size = refl
act-become status (call.Keep bytes) m size = refl
act-become status call.Look m size = refl
act-become status (call.Open site path) m size = refl

-- a run that waits: its act is named, and lies in the memory
module _ (script : List Step) (k : ℕ) (m m' : Machine) (s s' : List ℕ) (a : Act) (waited : after (Ok (Some a)) m' s' ≡ runs script k m s) where
  wait_here : Named a script m' (length s')
  wait_here =
      subst (λ (x : After). NamedBy x.flow script x.machine x.memory) (sym waited) (runs_sound script k m s).named

  pub wait_named : (status : Status) → Named a script (become status m') (length s')
  wait_named status =
      (wait_here.0, (wait_here.1.0, act-become status wait_here.0 m' (length s') ∙ wait_here.1.1))

  pub wait_within : Within a (length s')
  wait_within = act-within wait_here.0 m' (length s') a wait_here.1.1
