-- The text of a page is assembled to that page.
use Rattle.std.proofs.Common.{◌≡◌, ℕ, zero, suc, ◌+◌, ◌*◌, ◌/◌, ◌%◌, ◌<◌, ◌≤◌, Bool, true, false, cond, ◌&&◌, eqb, leb, List, [], ◌∷◌, ◌++◌, length, get_or, take, drop, Some, Ok, Err, Option, Result, sym, refl, ap, ◌∙◌, ⊎_elim, append_assoc, append-nil, arith, length-append}
use Rattle.std.specs.List.{prefix_len, AllByRecursion}
use Rattle.std.proofs.ByRecursion.{All-get_or, All-from_get_or, All-take, All-drop}
use Rattle.std.proofs.lemmas.List.{take_all, take-append-drop, length-take-le, length-drop}
use Rattle.std.proofs.lemmas.Bool.{cond-true, cond-false, cases_Bool, eqb-true, and_parts, le-leb, not-true}
use Rattle.octets.specs.declared.Class.TheVariants.{Line}
use Rattle.octets.specs.Classes.{has}
use Rattle.octets.proofs.Options.{none-some}
use Rattle.scripts.specs.declared.Step.{Step}
use Rattle.scripts.specs.declared.Call.{Call}
use Rattle.scripts.specs.declared.Unreadable.{Unreadable}
use Rattle.scripts.specs.Page.{word, step_by, call_by, wait_for, step_in, steps_in, page_in, head_of}
use Rattle.script_lines.specs.Operands.{and_on}
use Rattle.assembler.specs.Texts.{grown, lines}
use Rattle.assembler.specs.Assembled.{row_bytes, added, with_meaning, with_line, go_on, lines_from, with_head, assembled}
use Rattle.disassembler.specs.Lines.{line_then, row_in}
use Rattle.disassembler.specs.Texts.{rows_text, text_by, disassembled, AssemblesBack}
use Rattle.disassembler.proofs.Sizes.{Fitting}
use Rattle.disassembler.proofs.Pages.{Head, step_then, page_ok}
use Rattle.disassembler.proofs.Back.{Known, NoFeed, line_back, line_append, line_feed}

-- what holds where a test passed, and where it did not, holds of its answer
by_test : {A : Type 0} (P : A → Type 0) (b : Bool) (x y : A) → (b ≡ true → P x) → (b ≡ false → P y) → P (cond b x y)
by_test P true x y p q = p refl
by_test P false x y p q = q refl

-- a step that can be read is one that a page may have
module _ (k a b c n : ℕ) (s : Step) where
  few : (i : ℕ) → i ≤ 5 → eqb n i ≡ true → n ≤ 5
  few i h e = let is = eqb-true n i e in omega arith

  Call-known : Option Call → Type 0
  Call-known o = wait_for o ≡ Some s → n ≤ 5

  call_known : Call-known (call_by n a b c)
  unfolding Call-known
  call_known =
      by_test Call-known (eqb n 0) _ _ (λ e q. few 0 (omega arith) e)
      (λ _. by_test Call-known (eqb n 1) _ _ (λ e q. few 1 (omega arith) e)
      (λ _. by_test Call-known (eqb n 2) _ _ (λ e q. few 2 (omega arith) e)
      (λ _. by_test Call-known (eqb n 3) _ _ (λ e q. few 3 (omega arith) e)
      (λ _. by_test Call-known (eqb n 4) _ _ (λ e q. few 4 (omega arith) e)
      (λ _. by_test Call-known (eqb n 5) _ _ (λ e q. few 5 (omega arith) e) (λ _ q. absurd (none-some s q)))))))

  Step-known : Option Step → Type 0
  Step-known o = o ≡ Some s → (k ≤ 10) × (k ≡ 10 → n ≤ 5)

  small : (i : ℕ) (o : Option Step) → i < 10 → eqb k i ≡ true → Step-known o
  unfolding Step-known
  small i o h e q = let is = eqb-true k i e in (omega arith, λ ten. absurd (omega arith))

  pub step_known : step_by k a b c n ≡ Some s → (k ≤ 10) × (k ≡ 10 → n ≤ 5)
  unfolding Step-known Call-known
  step_known =
      by_test Step-known (eqb k 0) _ _ (small 0 _ (omega arith))
      (λ _. by_test Step-known (eqb k 1) _ _ (small 1 _ (omega arith))
      (λ _. by_test Step-known (eqb k 2) _ _ (small 2 _ (omega arith))
      (λ _. by_test Step-known (eqb k 3) _ _ (small 3 _ (omega arith))
      (λ _. by_test Step-known (eqb k 4) _ _ (small 4 _ (omega arith))
      (λ _. by_test Step-known (eqb k 5) _ _ (small 5 _ (omega arith))
      (λ _. by_test Step-known (eqb k 6) _ _ (small 6 _ (omega arith))
      (λ _. by_test Step-known (eqb k 7) _ _ (small 7 _ (omega arith))
      (λ _. by_test Step-known (eqb k 8) _ _ (small 8 _ (omega arith))
      (λ _. by_test Step-known (eqb k 9) _ _ (small 9 _ (omega arith))
      (λ _. by_test Step-known (eqb k 10) _ _ (λ e q. let is = eqb-true k 10 e in (omega arith, λ ten. call_known q)) (λ _ q. absurd (none-some s q))))))))))))

row_known : (bs : List ℕ) (s : Step) → step_in bs ≡ Some s → Known (row_in bs)
row_known bs s e = let h = step_known _ _ _ _ _ s e in record { kind = h.0; call = h.1 }

-- bytes
abbrev pub Byte : ℕ → Type 0
Byte b = b < 256

row-fitting : (bs : List ℕ) → length bs ≡ 8 → AllByRecursion Byte bs → Fitting (row_in bs)
row-fitting bs size all =
    let at : (i : ℕ) → i < 8 → get_or bs i 0 < 256 = λ i h. All-get_or Byte bs i 0 (omega arith) all in
    record {
      kind = at 0 (omega arith);
      a = at 1 (omega arith);
      b = at 2 (omega arith);
      c = at 3 (omega arith);
      number = omega (arith, at 4 (omega arith), at 5 (omega arith), at 6 (omega arith), at 7 (omega arith));
    }

-- the first eight of some bytes
eight : (bs : List ℕ) → 8 ≤ length bs → take 8 bs ≡ get_or bs 0 0 ∷ get_or bs 1 0 ∷ get_or bs 2 0 ∷ get_or bs 3 0 ∷ get_or bs 4 0 ∷ get_or bs 5 0 ∷ get_or bs 6 0 ∷ get_or bs 7 0 ∷ []
eight [] h = absurd (omega arith)
eight (p ∷ []) h = absurd (omega arith)
eight (p ∷ q ∷ []) h = absurd (omega arith)
eight (p ∷ q ∷ r ∷ []) h = absurd (omega arith)
eight (p ∷ q ∷ r ∷ s ∷ []) h = absurd (omega arith)
eight (p ∷ q ∷ r ∷ s ∷ t ∷ []) h = absurd (omega arith)
eight (p ∷ q ∷ r ∷ s ∷ t ∷ u ∷ []) h = absurd (omega arith)
eight (p ∷ q ∷ r ∷ s ∷ t ∷ u ∷ v ∷ []) h = absurd (omega arith)
eight (p ∷ q ∷ r ∷ s ∷ t ∷ u ∷ v ∷ w ∷ bs) h = refl

row-bytes : (bs : List ℕ) → length bs ≡ 8 → AllByRecursion Byte bs → row_bytes (row_in bs) ≡ bs
row-bytes bs size all =
    let at : (i : ℕ) → i < 8 → get_or bs i 0 < 256 = λ i h. All-get_or Byte bs i 0 (omega arith) all in
    let w = get_or bs 4 0 in
    let x = get_or bs 5 0 in
    let y = get_or bs 6 0 in
    let z = get_or bs 7 0 in
    let hw = at 4 (omega arith) in
    let hx = at 5 (omega arith) in
    let hy = at 6 (omega arith) in
    let hz = at 7 (omega arith) in
    let ew : word w x y z / 16777216 % 256 ≡ w = omega arith in
    let ex : word w x y z / 65536 % 256 ≡ x = omega arith in
    let ey : word w x y z / 256 % 256 ≡ y = omega arith in
    let ez : word w x y z % 256 ≡ z = omega arith in
    (λ i. get_or bs 0 0 ∷ get_or bs 1 0 ∷ get_or bs 2 0 ∷ get_or bs 3 0 ∷ ew i ∷ ex i ∷ ey i ∷ ez i ∷ [])
    ∙ sym (eight bs (omega arith))
    ∙ take_all 8 bs (omega arith)

head_bytes : (bs : List ℕ) (n : ℕ) → Head bs n → AllByRecursion Byte bs → head_of n ≡ take 8 bs
head_bytes bs n head all =
    let page = and_parts (leb 6 (length bs)) _ head.page in
    let p = and_parts (eqb (get_or bs 0 0) 80 && eqb (get_or bs 1 0) 65) _ page.1 in
    let q = and_parts (eqb (get_or bs 0 0) 80) (eqb (get_or bs 1 0) 65) p.0 in
    let r = and_parts (eqb (get_or bs 2 0) 71 && eqb (get_or bs 3 0) 69) _ p.1 in
    let s = and_parts (eqb (get_or bs 2 0) 71) (eqb (get_or bs 3 0) 69) r.0 in
    let t = and_parts (eqb (get_or bs 4 0) 32) (eqb (get_or bs 5 0) 49) r.1 in
    let size = head.size in
    let steps = head.steps in
    let h6 = All-get_or Byte bs 6 0 (omega arith) all in
    let h7 = All-get_or Byte bs 7 0 (omega arith) all in
    let e6 : n / 256 % 256 ≡ get_or bs 6 0 = omega arith in
    let e7 : n % 256 ≡ get_or bs 7 0 = omega arith in
    (λ i. sym (eqb-true _ _ q.0) i ∷ sym (eqb-true _ _ q.1) i ∷ sym (eqb-true _ _ s.0) i ∷ sym (eqb-true _ _ s.1) i ∷ sym (eqb-true _ _ t.0) i ∷ sym (eqb-true _ _ t.1) i ∷ e6 i ∷ e7 i ∷ [])
    ∙ sym (eight bs (omega arith))

-- a line with its line feed
lines-append : (l t : List ℕ) → NoFeed l → lines (l ++ (10 ∷ t)) ≡ l ∷ lines t
lines-append [] t e = refl
lines-append (b ∷ l) t e =
    ⊎_elim
    (λ y. let e' : prefix_len (has Line) l ≡ length l = omega (arith, sym (cond-true (has Line b) (1 + prefix_len (has Line) l) 0 y) ∙ e) in
    cond-false _ _ _ (not-true (eqb b 10) y) ∙ ap (grown b) (lines-append l t e'))
    (λ n. let z : 0 ≡ suc (length l) = sym (cond-false (has Line b) (1 + prefix_len (has Line) l) 0 n) ∙ e in absurd (omega arith))
    (cases_Bool (has Line b))

-- the lines of so many steps
abbrev lines_of : ℕ → List ℕ → List (List ℕ)
lines_of zero bs = []
lines_of (suc n) bs = line_then (row_in (take 8 bs)) [] ∷ lines_of n (drop 8 bs)

rows_lines : (n : ℕ) (bs : List ℕ) → length bs ≡ n * 8 → AllByRecursion Byte bs → lines (rows_text n bs) ≡ lines_of n bs
unfolding rows_text
rows_lines zero bs size all = refl
rows_lines (suc n) bs size all =
    let row = row_in (take 8 bs) in
    let l = line_then row [] in
    let rest = rows_text n (drop 8 bs) in
    let fit = row-fitting (take 8 bs) (length-take-le 8 bs (omega arith)) (All-take Byte 8 bs all) in
    ap lines (ap (λ t. t ++ rest) (line_append row (10 ∷ [])) ∙ append_assoc l (10 ∷ []) rest)
    ∙ lines-append l rest (line_feed row fit)
    ∙ ap (λ ls. l ∷ ls) (rows_lines n (drop 8 bs) (omega (arith, length-drop 8 bs)) (All-drop Byte 8 bs all))

-- the lines of steps are assembled to these steps
no_bytes : (bs : List ℕ) → length bs ≡ 0 → bs ≡ []
no_bytes [] e = refl
no_bytes (b ∷ bs) e = absurd (omega arith)

rows_from : (text : List ℕ) (n k : ℕ) (done bs : List ℕ) (steps : List Step) → length bs ≡ n * 8 → length done + n * 8 ≤ 16000 → AllByRecursion Byte bs → steps_in n bs ≡ Ok steps → lines_from text k done (lines_of n bs) ≡ Ok (done ++ bs)
rows_from text zero k done bs steps size room all e = ap Ok (sym (ap (λ t. done ++ t) (no_bytes bs (omega arith)) ∙ append-nil done))
rows_from text (suc n) k done bs steps size room all e =
    let first = take 8 bs in
    let row = row_in first in
    let l = line_then row [] in
    let long = length-take-le 8 bs (omega arith) in
    let bytes = All-take Byte 8 bs all in
    let next = step_then n bs steps e in
    let read = line_back row (row_known first next.0 next.2) (row-fitting first long bytes) in
    let others = λ (more : List ℕ). lines_from text (k + 1) more (lines_of n (drop 8 bs)) in
    let taken : with_line text k done l ≡ Ok (done ++ first) =
    ap (λ r. and_on r (with_meaning text k done l)) read
    ∙ ap (added done l) (row-bytes first long bytes)
    ∙ cond-true (leb (length done + length first) 16000) _ _ (le-leb _ _ (omega (arith, long)))
    in
    ap (λ r. go_on r k l others) taken
    ∙ rows_from text n (k + 1) (done ++ first) (drop 8 bs) next.1 (omega (arith, length-drop 8 bs)) (omega (arith, length-append done first, long)) (All-drop Byte 8 bs all) next.3
    ∙ ap Ok (append_assoc done first (drop 8 bs) ∙ ap (λ t. done ++ t) (take-append-drop 8 bs))

-- the text of a page is assembled to that page
pub assembles_back : (bs : List ℕ) (steps : List Step) → page_in bs ≡ Ok steps → AllByRecursion Byte bs → assembled (rows_text (length steps) (drop 8 bs)) ≡ Ok bs
assembles_back bs steps e all =
    let n = length steps in
    let body = drop 8 bs in
    let h = page_ok bs steps e in
    let head = h.0 in
    let size = head.size in
    let few-steps = head.few in
    let long : length body ≡ n * 8 = omega (arith, length-drop 8 bs) in
    let bytes = All-drop Byte 8 bs all in
    let eighth : length body / 8 ≡ n = omega arith in
    ap (λ ls. with_head (lines_from (rows_text n body) 0 [] ls)) (rows_lines n body long bytes)
    ∙ ap with_head (rows_from (rows_text n body) n 0 [] body steps long (omega arith) bytes h.1)
    ∙ ap (λ m. Ok (head_of m ++ body)) eighth
    ∙ ap (λ t. Ok (t ++ body)) (head_bytes bs n head all)
    ∙ ap Ok (take-append-drop 8 bs)

-- the same of any bytes: a page that can be read, or none
pub back_of : (bs : List ℕ) → ((i : ℕ) → get_or bs i 0 < 256) → AssemblesBack (disassembled bs) bs
back_of bs bytes = go (page_in bs) refl
  where
    go : (r : Result (List Step) Unreadable) → page_in bs ≡ r → AssemblesBack (text_by r bs) bs
    go (Err fault) e = tt
    go (Ok steps) e = assembles_back bs steps e (All-from_get_or Byte bs 0 (λ i h. bytes i))
