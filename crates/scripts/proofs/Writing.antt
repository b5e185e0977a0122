-- Pages that are written can be read.
use Rattle.std.proofs.Common.{◌≡◌, ℕ, ◌+◌, ◌*◌, ◌<◌, ◌≤◌, true, false, ◌&&◌, ltb, leb, List, [], ◌∷◌, ◌++◌, length, get_or, take, drop, Some, Ok, sym, refl, ap, ◌∙◌, arith, le-ltb, le-leb}
use borrow.Author.Tests.{lt-leb}
use borrow.Rule.Slice.PartMut.{put_mid, post_of}
use Rattle.std.proofs.lemmas.Bool.{cond-true, cond-false}
use Rattle.std.specs.List.{flat_map, AllByRecursion}
use Rattle.std.proofs.lemmas.List.{take_at, drop_at, drop-drop, length-append, take_more, flat_map_more}
use Rattle.scripts.specs.declared.Step.{Step}
use Rattle.scripts.specs.declared.Step.TheVariants.{Constant, Move, Sum, Product, Equal, Less, Jump, JumpIf, Load, Store, Wait}
use Rattle.scripts.specs.declared.Call.{Call}
use Rattle.scripts.specs.declared.Call.TheVariants.{Nothing, Ask, Say, Keep, Look, Open}
use Rattle.scripts.specs.Page.{step_in, steps_in, before, step_bytes, call_bytes, is_page, count_in, sized, head_in, body_in, page_in, head_of, page_of, written, written_size}

-- a step is read from the bytes that are written of it
abbrev pub ReadBack : Step → Type 0
ReadBack step = step_in (step_bytes step) ≡ Some step

length_call : (call : Call) → length (call_bytes call) ≡ 8
length_call Nothing = refl
length_call (Ask site path body) = refl
length_call (Say window site bytes) = refl
length_call (Keep bytes) = refl
length_call Look = refl
length_call (Open site path) = refl

pub length-step : (step : Step) → length (step_bytes step) ≡ 8
length-step (Constant a n) = refl
length-step (Move a b) = refl
length-step (Sum a b c) = refl
length-step (Product a b c) = refl
length-step (Equal a b c) = refl
length-step (Less a b c) = refl
length-step (Jump n) = refl
length-step (JumpIf a n) = refl
length-step (Load a b) = refl
length-step (Store a b) = refl
length-step (Wait call) = length_call call

pub length_steps : (steps : List Step) → length (flat_map step_bytes steps) ≡ length steps * 8
length_steps [] = refl
length_steps (step ∷ steps) =
    length-append (step_bytes step) (flat_map step_bytes steps) ∙ omega (arith, length-step step, length_steps steps)

-- steps that can be read one by one can be read in a row
pub back_all : (steps : List Step) → AllByRecursion ReadBack steps → steps_in (length steps) (flat_map step_bytes steps) ≡ Ok steps
unfolding steps_in
back_all [] all = refl
back_all (step ∷ steps) all =
    let rest = flat_map step_bytes steps in
    (λ i. before (step_in (take_at (step_bytes step) rest 8 (length-step step) i)) (steps_in (length steps) (drop_at (step_bytes step) rest 8 (length-step step) i)))
    ∙ ap (λ o. before o (steps_in (length steps) rest)) all.0
    ∙ ap (before (Some step)) (back_all steps all.1)

-- one step more is written
pub joined_step : (steps : List Step) (i : ℕ) (d : Step) (done bs : List ℕ) → i < length steps → done ≡ flat_map step_bytes (take i steps) → bs ≡ step_bytes (get_or steps i d) → done ++ bs ≡ flat_map step_bytes (take (i + 1) steps)
joined_step steps i d done bs h e f =
    (λ k. e k ++ f k)
    ∙ flat_map_more step_bytes [] (take i steps) (get_or steps i d)
    ∙ ap (flat_map step_bytes) (sym (take_more steps i d h))

head_of_lem : (bs : List ℕ) (count : ℕ) → is_page bs ≡ true → count_in bs ≡ count → length bs ≡ 8 + count * 8 → count ≤ 2000 → head_in bs ≡ Ok count
head_of_lem bs count page is size few =
    cond-true (is_page bs) _ _ page
    ∙ cond-false (ltb (length bs) 8) _ _ (le-ltb _ _ (omega arith))
    ∙ (λ i. sized (is i) (size i))
    ∙ cond-false (ltb 2000 count) _ _ (le-ltb _ _ few)
    ∙ cond-false (ltb (8 + count * 8) (8 + count * 8)) _ _ (le-ltb _ _ (omega arith))
    ∙ cond-false (ltb (8 + count * 8) (8 + count * 8)) _ _ (le-ltb _ _ (omega arith))

pub length_page : (steps : List Step) → length (page_of steps) ≡ 8 + length steps * 8
length_page steps = omega (arith, length_steps steps)

-- a page that is written is read as the same steps
pub page_back : (steps : List Step) → length steps ≤ 2000 → steps_in (length steps) (flat_map step_bytes steps) ≡ Ok steps → page_in (page_of steps) ≡ Ok steps
page_back steps few all =
    let six : leb 6 (length (page_of steps)) ≡ true = le-leb _ _ (omega arith) in
    ap (λ r. body_in r (flat_map step_bytes steps))
    (head_of_lem (page_of steps) (length steps) (ap (λ b. b && true) six) (omega arith) (length_page steps) few)
    ∙ all

-- a page with so many steps in a buffer: whether it fits, what is written, and that it can be read
module _ (steps : List Step) (buffer : List ℕ) where
  pub none-fits : length buffer < 8 + length steps * 8 → leb (length (page_of steps)) (length buffer) ≡ false
  none-fits h = lt-leb _ _ (omega (arith, length_page steps))

  all-fits : 8 + length steps * 8 ≤ length buffer → leb (length (page_of steps)) (length buffer) ≡ true
  all-fits h = le-leb _ _ (omega (arith, length_page steps))

  pub size_fits : 8 + length steps * 8 ≤ length buffer → Some (8 + length steps * 8) ≡ written_size (page_of steps) buffer
  size_fits h = ap Some (sym (length_page steps)) ∙ sym (cond-true _ _ _ (all-fits h))

  -- the head and then the steps are put into the buffer
  pub file_put : (head body : List ℕ) (k : ℕ) → head ≡ head_of (length steps) → body ≡ flat_map step_bytes steps → k ≡ length steps * 8 → put_mid 8 k (head ++ post_of 0 8 buffer) body ≡ page_of steps ++ drop (8 + length steps * 8) buffer
  file_put head body k e f g =
      let eight : length head ≡ 8 = ap length e in
      (λ i. take_at head (drop 8 buffer) 8 eight i ++ (body ++ drop k (drop_at head (drop 8 buffer) 8 eight i)))
      ∙ (λ i. e i ++ (f i ++ drop (g i) (drop 8 buffer)))
      ∙ ap (λ xs. head_of (length steps) ++ (flat_map step_bytes steps ++ xs)) (drop-drop (length steps * 8) 8 buffer)

  pub file_written : (after : List ℕ) → 8 + length steps * 8 ≤ length buffer → after ≡ page_of steps ++ drop (8 + length steps * 8) buffer → after ≡ written (page_of steps) buffer
  file_written after h e =
      e ∙ ap (λ n. page_of steps ++ drop n buffer) (sym (length_page steps)) ∙ sym (cond-true _ _ _ (all-fits h))

  pub file_back : (after : List ℕ) → length steps ≤ 2000 → steps_in (length steps) (flat_map step_bytes steps) ≡ Ok steps → after ≡ page_of steps ++ drop (8 + length steps * 8) buffer → page_in (take (8 + length steps * 8) after) ≡ Ok steps
  file_back after few all e =
      ap page_in (ap (take (8 + length steps * 8)) e ∙ take_at (page_of steps) _ _ (length_page steps)) ∙ page_back steps few all
