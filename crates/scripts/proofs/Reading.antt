-- Steps that are read one by one.
use Rattle.std.proofs.Common.{◌≡◌, ℕ, suc, ◌+◌, ◌-◌, ◌<◌, List, [], ◌∷◌, ◌++◌, length, take, drop, Some, None, Ok, Err, Option, Result, sym, refl, ap, ◌∙◌, append_assoc, append-nil, arith}
use Rattle.std.proofs.Math.Seq.{take-append_seam, drop-append_seam}
use Rattle.scripts.specs.declared.Step.{Step}
use Rattle.scripts.specs.declared.Unreadable.{Unreadable}
use Rattle.scripts.specs.declared.Unreadable.TheVariants.{UnknownStep}
use Rattle.scripts.specs.Page.{step_in, steps_in, before}

-- the steps that are read, and then those of the rest
abbrev pub onto : List Step → Result (List Step) Unreadable → Result (List Step) Unreadable
onto done (Err fault) = Err fault
onto done (Ok steps) = Ok (done ++ steps)

pub onto_none : (r : Result (List Step) Unreadable) → onto [] r ≡ r
onto_none (Err fault) = refl
onto_none (Ok steps) = refl

pub onto_all : (done : List Step) (count : ℕ) (bs : List ℕ) → count ≡ 0 → onto done (steps_in count bs) ≡ Ok done
unfolding steps_in
onto_all done count bs e = ap (λ n. onto done (steps_in n bs)) e ∙ ap Ok (append-nil done)

onto_before : (done : List Step) (step : Step) (r : Result (List Step) Unreadable) → onto done (before (Some step) r) ≡ onto (done ++ step ∷ []) r
onto_before done step (Err fault) = refl
onto_before done step (Ok steps) = ap Ok (sym (append_assoc done (step ∷ []) steps))

next : (count : ℕ) (bs : List ℕ) (o : Option Step) → 0 < count → o ≡ step_in (take 8 bs) → steps_in count bs ≡ before o (steps_in (count - 1) (drop 8 bs))
unfolding steps_in
next count bs o h e =
    let more : count ≡ suc (count - 1) = omega arith in
    ap (λ n. steps_in n bs) more ∙ ap (λ y. before y (steps_in (count - 1) (drop 8 bs))) (sym e)

-- one step more is read, and `rest` is left
pub onto_more : (done now : List Step) (count fewer : ℕ) (bs rest : List ℕ) (step : Step) → fewer + 1 ≡ count → Some step ≡ step_in (take 8 bs) → now ≡ done ++ step ∷ [] → rest ≡ drop 8 bs → onto now (steps_in fewer rest) ≡ onto done (steps_in count bs)
onto_more done now count fewer bs rest step h e f g =
    let less : fewer ≡ count - 1 = omega arith in
    (λ i. onto (f i) (steps_in (less i) (g i))) ∙ sym (ap (onto done) (next count bs (Some step) (omega arith) e) ∙ onto_before done step _)

pub onto_unknown : (done : List Step) (count : ℕ) (bs : List ℕ) → 0 < count → None ≡ step_in (take 8 bs) → onto done (steps_in count bs) ≡ Err UnknownStep
onto_unknown done count bs h e = ap (onto done) (next count bs None h e)

-- a chunk of eight bytes is the front of what was left, and the rest is left behind it
pub front_8 : (bs x rest : List ℕ) → bs ≡ x ++ rest → length x ≡ 8 → take 8 bs ≡ x
front_8 bs x rest e h = (λ i. take (sym h i) (e i)) ∙ take-append_seam x rest

pub past_8 : (bs x rest : List ℕ) → bs ≡ x ++ rest → length x ≡ 8 → drop 8 bs ≡ rest
past_8 bs x rest e h = (λ i. drop (sym h i) (e i)) ∙ drop-append_seam x rest
