-- The first half of a turn is made of its steps. Assumes nothing.
use Rattle.std.proofs.Common.{◌≡◌, ℕ, zero, suc, ◌<◌, cond, not, ◌&&◌, eqb, ltb, List, [], ◌∷◌, length, Some, None, Option, sym, refl, ap, ◌∙◌, arith}
use Rattle.std.specs.Option.{option_map}
use Rattle.octets.proofs.Options.{none-some, some_same}
use Rattle.machine.specs.Script.{State}
use Rattle.pages.specs.Sites.{Scripts, Act, Idle, Asks, Says, Keeps, Looks, Opens}
use Rattle.pages.specs.Browser.{Window, Part, stepped, change, nth, acted, begun_by, needs_of, needs_by, with_windows, most_windows}
use Rattle.pages.specs.Outs.{out, Said}
use Rattle.pages.proofs.Places.{is_of-change, change-length}
use Rattle.windows.specs.Scripts.{by_machine}
use Rattle.browser.specs.Halves.{page_outs, page_outs_of, run_fault}
use Rattle.browser.specs.Ran.{run_of}

-- a step leaves each window its site, so what is let out is the same after it
outs_stay : (c : Scripts State) (xs : List (Window State)) (i s : ℕ) (a : Act) → page_outs (change i (stepped c) xs) s a ≡ page_outs xs s a
outs_stay c xs i s Idle = refl
outs_stay c xs i s (Asks t h d) = refl
outs_stay c xs i s (Says j t d) = ap (λ b. cond (not (eqb t s) && b) (out s t (Said j d) ∷ []) []) (is_of-change t i j (stepped c) xs (λ x. refl))
outs_stay c xs i s (Keeps d) = refl
outs_stay c xs i s Looks = refl
outs_stay c xs i s (Opens t h) = refl

-- what is needed goes by how many windows there are, and not by what they are
needs_stay : (xs : List (Window State)) (b : Part State) (s : ℕ) (a : Act) → length xs ≡ length b.windows → needs_by s a (with_windows xs b) ≡ needs_by s a b
needs_stay xs b s Idle e = refl
needs_stay xs b s (Asks t h d) e = refl
needs_stay xs b s (Says j t d) e = refl
needs_stay xs b s (Keeps d) e = refl
needs_stay xs b s Looks e = refl
needs_stay xs b s (Opens t h) e = ap (λ n. cond (ltb n most_windows) (Some (record { site = t; from = None; token = b.tokens t; path = h; body = [] })) None) e

-- what came of a run came of a window
ran_some : {X Y : Type 0} (f : X → Y) (o : Option X) (y : Y) → Some y ≡ option_map f o → (x : X) × (o ≡ Some x) × (y ≡ f x)
ran_some f None y e = absurd (none-some y (sym e))
ran_some f (Some x) y e = (x, refl, some_same y (f x) e)

pub ran_none : {X Y : Type 0} (f : X → Y) (o : Option X) → None ≡ option_map f o → o ≡ None
ran_none f None e = refl
ran_none f (Some x) e = absurd (none-some (f x) e)

pub same_run : {s t : ℕ} {a b : Act} {m n : ℕ} → s ≡ t → a ≡ b → m ≡ n → ◌≡◌ {A = Option (ℕ × Act × ℕ)} (Some (s, a, m)) (Some (t, b, n))
same_run {s} {t} {a} {b} {m} {n} p q r =
    let run : ℕ → Act → ℕ → Option (ℕ × Act × ℕ) = λ z e f. Some (z, e, f) in
    ap (λ z. run z a m) p ∙ ap (λ z. run t z m) q ∙ ap (λ z. run t b z) r

-- a window that was found is one of the row
inside : {X : Type 0} (xs : List X) (i : ℕ) (x : X) → nth i xs ≡ Some x → i < length xs
unfolding nth
inside [] i x e = absurd (none-some x e)
inside (y ∷ xs) zero x e = omega arith
inside (y ∷ xs) (suc i) x e = let h = inside xs i x e in omega arith

pub found_inside : (n i : ℕ) (ws xs : List (Window State)) (r : ℕ × Act × ℕ) → xs ≡ change i (stepped (by_machine n)) ws → Some r ≡ option_map (run_of n) (nth i ws) → i < length xs
found_inside n i ws xs r put came =
    let f = ran_some (run_of n) (nth i ws) r came in
    let h = inside ws i f.0 f.1 in
    let l = ap length put ∙ change-length i (stepped (by_machine n)) ws in
    omega arith

-- what is done, what is asked for, what is let out, and the fault, where r came of window i, and xs are the windows then
pub record FirstHalf (n i : ℕ) (b : Part State) (xs : List (Window State)) (r : ℕ × Act × ℕ) : Type 0 where
  pub part : acted i r.0 r.1 (with_windows xs b) ≡ begun_by (by_machine n) i (nth i b.windows) b
  pub need : needs_by r.0 r.1 (with_windows xs b) ≡ needs_of (by_machine n) (nth i b.windows) b
  pub outs : page_outs xs r.0 r.1 ≡ page_outs_of (by_machine n) (nth i b.windows) b
  pub fault : r.2 ≡ run_fault n (nth i b.windows)

pub first_half : (n i : ℕ) (b : Part State) (xs : List (Window State)) (r : ℕ × Act × ℕ) → xs ≡ change i (stepped (by_machine n)) b.windows → Some r ≡ option_map (run_of n) (nth i b.windows) → FirstHalf n i b xs r
first_half n i b xs r put came =
    let f = ran_some (run_of n) (nth i b.windows) r came in
    let c = by_machine n in
    let x : Window State = f.0 in
    let found : nth i b.windows ≡ Some x = f.1 in
    let is : r ≡ run_of n x = f.2 in
    record {
      part = ap (λ (z : ℕ × Act × ℕ). acted i z.0 z.1 (with_windows xs b)) is
          ∙ ap (λ z. acted i (run_of n x).0 (run_of n x).1 (with_windows z b)) put
          ∙ ap (λ z. begun_by c i z b) (sym found);
      need = needs_stay xs b r.0 r.1 (ap length put ∙ change-length i (stepped c) b.windows)
          ∙ ap (λ (z : ℕ × Act × ℕ). needs_by z.0 z.1 b) is
          ∙ ap (λ z. needs_of c z b) (sym found);
      outs = ap (λ z. page_outs z r.0 r.1) put
          ∙ outs_stay c b.windows i r.0 r.1
          ∙ ap (λ (z : ℕ × Act × ℕ). page_outs b.windows z.0 z.1) is
          ∙ ap (λ z. page_outs_of c z b) (sym found);
      fault = ap (λ (z : ℕ × Act × ℕ). z.2) is ∙ ap (run_fault n) (sym found);
    }
