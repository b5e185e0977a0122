-- What is known of a page file that could be read.
use Rattle.std.proofs.Common.{◌≡◌, ℕ, zero, suc, ◌+◌, ◌*◌, ◌≤◌, Bool, true, false, cond, ltb, List, [], ◌∷◌, length, take, drop, Some, None, Ok, Err, Option, Result, sym, refl, ap, ◌∙◌, arith}
use Rattle.std.proofs.lemmas.Bool.{ltb-false}
use Rattle.scripts.specs.declared.Step.{Step}
use Rattle.scripts.specs.declared.Unreadable.{Unreadable}
use Rattle.scripts.specs.Page.{step_in, before, steps_in, is_page, count_in, sized, head_in, body_in, page_in}

err_ok : {A : Type 0} {P : Type 0} (fault : Unreadable) (x : A) → Err fault ≡ Ok x → P
err_ok fault x e = let z : ◌≡◌ {A = ℕ} 0 1 = cc in absurd (omega arith)

-- a test that was passed on the way to an answer
if_ok : {A : Type 0} (b : Bool) (r : Result A Unreadable) (fault : Unreadable) (x : A) → cond b r (Err fault) ≡ Ok x → (b ≡ true) × (r ≡ Ok x)
if_ok true r fault x e = (refl, e)
if_ok false r fault x e = err_ok fault x e

else-ok : {A : Type 0} (b : Bool) (r : Result A Unreadable) (fault : Unreadable) (x : A) → cond b (Err fault) r ≡ Ok x → (b ≡ false) × (r ≡ Ok x)
else-ok true r fault x e = err_ok fault x e
else-ok false r fault x e = (refl, e)

-- the first step and the others
before_ok : (o : Option Step) (r : Result (List Step) Unreadable) (steps : List Step) → before o r ≡ Ok steps → (step : Step) × (rest : List Step) × (o ≡ Some step) × (r ≡ Ok rest) × (steps ≡ step ∷ rest)
before_ok None r steps e = err_ok _ steps e
before_ok (Some step) (Err fault) steps e = err_ok fault steps e
before_ok (Some step) (Ok rest) steps e = (step, rest, refl, refl, cc)

pub step_then : (n : ℕ) (bs : List ℕ) (steps : List Step) → steps_in (suc n) bs ≡ Ok steps → (step : Step) × (rest : List Step) × (step_in (take 8 bs) ≡ Some step) × (steps_in n (drop 8 bs) ≡ Ok rest) × (steps ≡ step ∷ rest)
unfolding steps_in
step_then n bs steps e = before_ok (step_in (take 8 bs)) (steps_in n (drop 8 bs)) steps e

pub steps_count : (n : ℕ) (bs : List ℕ) (steps : List Step) → steps_in n bs ≡ Ok steps → length steps ≡ n
unfolding steps_in
steps_count zero bs steps e = let none : steps ≡ [] = cc in ap length none
steps_count (suc n) bs steps e =
    let h = step_then n bs steps e in
    ap length h.4 ∙ ap suc (steps_count n (drop 8 bs) h.1 h.3)

-- a head that could be read
pub record Head (bs : List ℕ) (n : ℕ) : Type 0 where
  pub page : is_page bs ≡ true
  pub steps : count_in bs ≡ n
  pub size : length bs ≡ 8 + n * 8
  pub few : n ≤ 2000

sized_ok : (m size n : ℕ) → sized m size ≡ Ok n → (m ≡ n) × (size ≡ 8 + n * 8) × (n ≤ 2000)
sized_ok m size n e =
    let a = else-ok (ltb 2000 m) _ _ n e in
    let b = else-ok (ltb size (8 + m * 8)) _ _ n a.1 in
    let c = else-ok (ltb (8 + m * 8) size) _ _ n b.1 in
    let is : m ≡ n = (let o = c.1 in cc) in
    let p = ltb-false _ _ a.0 in
    let q = ltb-false _ _ b.0 in
    let r = ltb-false _ _ c.0 in
    (is, omega arith, omega arith)

head_ok : (bs : List ℕ) (n : ℕ) → head_in bs ≡ Ok n → Head bs n
head_ok bs n e =
    let a = if_ok (is_page bs) _ _ n e in
    let b = else-ok (ltb (length bs) 8) _ _ n a.1 in
    let c = sized_ok (count_in bs) (length bs) n b.1 in
    record { page = a.0; steps = c.0; size = c.1; few = c.2 }

-- a page file that could be read: its head, and its steps
pub page_ok : (bs : List ℕ) (steps : List Step) → page_in bs ≡ Ok steps → Head bs (length steps) × (steps_in (length steps) (drop 8 bs) ≡ Ok steps)
page_ok bs steps e = go (head_in bs) refl e
  where
    go : (r : Result ℕ Unreadable) → head_in bs ≡ r → body_in r (drop 8 bs) ≡ Ok steps → Head bs (length steps) × (steps_in (length steps) (drop 8 bs) ≡ Ok steps)
    go (Err fault) f p = err_ok fault steps p
    go (Ok n) f p =
        let is = steps_count n (drop 8 bs) steps p in
        (head_ok bs (length steps) (f ∙ ap Ok (sym is)), ap (λ m. steps_in m (drop 8 bs)) is ∙ p)
