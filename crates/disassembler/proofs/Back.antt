-- The line of a step is read as that step.
use Rattle.std.proofs.Common.{◌≡◌, ℕ, ◌<◌, ◌≤◌, Bool, true, false, cond, not, ◌&&◌, ◌||◌, eqb, ltb, leb, List, [], ◌∷◌, ◌++◌, length, get_or, Some, None, Ok, Err, codes, decimal, Option, sym, refl, ap, ◌∙◌, ⊎_elim, append_assoc, arith}
use Rattle.std.specs.List.{prefix_len}
use Rattle.std.specs.Str.{bytes_eq}
use Rattle.std.proofs.lemmas.Bool.{cond-true, cond-false, cases_Bool, leb-true, eqb-true, ne_eqb, and_parts, not-true}
use Rattle.octets.specs.declared.Class.TheVariants.{Visible, Line}
use Rattle.octets.specs.Classes.{has}
use Rattle.octets.proofs.Fronts.{all_append}
use Rattle.octets.proofs.Options.{none-some}
use Rattle.script_lines.specs.declared.Row.{Row}
use Rattle.script_lines.specs.declared.Expected.TheVariants as expected
use Rattle.script_lines.specs.declared.Operand.TheVariants as operand
use Rattle.script_lines.specs.declared.forms.Form.{Form}
use Rattle.script_lines.specs.declared.forms.Tail.{Tail}
use Rattle.script_lines.specs.declared.forms.Tail.TheVariants as tail
use Rattle.script_lines.specs.Forms.{form_of}
use Rattle.script_lines.specs.Operands.{rest_in, fault_at, and_on, operand_in, register_if}
use Rattle.script_lines.specs.Reading.{step, row_of, ended_with, at_end, tail_line, step_line, last_operand, raw_line, data_line, label_in, label_or, form_or, line_in}
use Rattle.disassembler.specs.declared.lines.Shown.{Shown}
use Rattle.disassembler.specs.declared.lines.Shown.TheVariants.{Nothing, Register, Number}
use Rattle.disassembler.specs.Lines.{name_of, shown_then, slot, slot_fits, tail_shown, tail_fits, fits, plain_then, raw_then, by_form, line_then}
use Rattle.disassembler.proofs.Sizes.{Fitting, by_cond, names_pass}
use Rattle.disassembler.proofs.Words.{widen, Word, Stops, skips, word_is, rest_is, stops_shown, digits_visible, read_number, read_byte, read_kind, read_call, read_slot, read_tail}

-- a step that a page may have
pub record Known (row : Row) : Type 0 where
  pub kind : row.kind ≤ 10
  pub call : row.kind ≡ 10 → row.number ≤ 5

-- a line that begins with a word that is no label and no comment
module _ (w t : List ℕ) (word : Word w) (stops : Stops t) (first : eqb (get_or w 0 0) 59 ≡ false) (no_label : label_in w ≡ None) where
  begun : (s : List ℕ) → 0 < length s → eqb (get_or (s ++ t) 0 0) 59 ≡ false → (eqb (length (s ++ t)) 0 || eqb (get_or (s ++ t) 0 0) 59) ≡ false
  begun [] h e = absurd (omega arith)
  begun (b ∷ s) h e = let some : eqb (length (b ∷ (s ++ t))) 0 ≡ false = ne_eqb _ _ (λ z. omega arith) in λ i. some i || e i

  same_first : (s : List ℕ) → 0 < length s → eqb (get_or s 0 0) 59 ≡ false → eqb (get_or (s ++ t) 0 0) 59 ≡ false
  same_first [] h e = absurd (omega arith)
  same_first (b ∷ s) h e = e

  not_end : at_end (w ++ t) ≡ false
  not_end =
      ap (λ s. eqb (length s) 0 || eqb (get_or s 0 0) 59) (skips w t word stops)
      ∙ begun w word.some (same_first w word.some first)

  pub line_is : line_in (w ++ t) ≡ form_or (form_of w) (w ++ t)
  unfolding line_in
  line_is =
      cond-false (at_end (w ++ t)) _ _ not_end
      ∙ ap (λ x. label_or (label_in x) (w ++ t)) (word_is w t word stops)
      ∙ ap (λ o. label_or o (w ++ t)) no_label
      ∙ ap (λ x. form_or (form_of x) (w ++ t)) (word_is w t word stops)

-- every mnemonic is such a word
none : Option (List ℕ) → Bool
none None = true
none (Some name) = false

plain_name : List ℕ → Bool
plain_name w = eqb (prefix_len (has Visible) w) (length w) && (not (eqb (get_or w 0 0) 59) && none (label_in w))

pub record Name (w : List ℕ) : Type 0 where
  pub visible : prefix_len (has Visible) w ≡ length w
  pub first : eqb (get_or w 0 0) 59 ≡ false
  pub no_label : label_in w ≡ None

none_is : (o : Option (List ℕ)) → none o ≡ true → o ≡ None
unfolding none
none_is None e = refl
none_is (Some name) e = let z : ◌≡◌ {A = ℕ} 0 1 = cc in absurd (omega arith)

pub name_of_lem : (row : Row) → Name (name_of row)
unfolding plain_name none
name_of_lem row =
    let p = and_parts (eqb (prefix_len (has Visible) (name_of row)) (length (name_of row))) _ (names_pass plain_name (refl, refl, refl, refl, refl, refl, refl, refl, refl, refl, refl, refl, refl, refl, refl, refl, refl) row) in
    let q = and_parts (not (eqb (get_or (name_of row) 0 0) 59)) (none (label_in (name_of row))) p.1 in
    record { visible = eqb-true _ _ p.0; first = not-true _ q.0; no_label = none_is _ q.1 }

form_some : (w : List ℕ) (form : Form) → form_of w ≡ Some form → 0 < length w
form_some [] form e = absurd (none-some form e)
form_some (b ∷ w) form e = omega arith

-- a step by its mnemonic
plain_back : (form : Form) (row : Row) → form_of (name_of row) ≡ Some form → fits form row ≡ true → Fitting row → line_in (plain_then (name_of row) form row []) ≡ Ok (step row)
plain_back form row e f fit =
    let r = form.registers in
    let name = name_of_lem row in
    let word : Word (name_of row) = record { some = form_some (name_of row) form e; visible = name.visible } in
    let p = and_parts (eqb row.kind form.kind && tail_fits form.tail row.number) _ f in
    let q = and_parts (eqb row.kind form.kind) (tail_fits form.tail row.number) p.0 in
    let s = and_parts (slot_fits (ltb 0 r) row.a) _ p.1 in
    let u = and_parts (slot_fits (ltb 1 r) row.b) (slot_fits (ltb 2 r) row.c) s.1 in
    let n0 = shown_then (tail_shown form.tail row.number) [] in
    let c0 = shown_then (slot (ltb 2 r) row.c) n0 in
    let b0 = shown_then (slot (ltb 1 r) row.b) c0 in
    let a0 = shown_then (slot (ltb 0 r) row.a) b0 in
    let n-stops : Stops n0 = stops_shown (tail_shown form.tail row.number) [] refl in
    let c-stops : Stops c0 = stops_shown (slot (ltb 2 r) row.c) n0 n-stops in
    let b-stops : Stops b0 = stops_shown (slot (ltb 1 r) row.b) c0 c-stops in
    let a-stops : Stops a0 = stops_shown (slot (ltb 0 r) row.a) b0 b-stops in
    let small-a : row.a < 4294967296 = omega (arith, fit.a) in
    let small_b : row.b < 4294967296 = omega (arith, fit.b) in
    let small-c : row.c < 4294967296 = omega (arith, fit.c) in
    line_is (name_of row) a0 word a-stops name.first name.no_label
    ∙ ap (λ o. form_or o (name_of row ++ a0)) e
    ∙ ap (step_line form) (rest_is (name_of row) a0 word a-stops)
    ∙ ap (λ x. and_on x (λ a. and_on (register_if (ltb 1 r) a.1) (λ b. and_on (register_if (ltb 2 r) b.1) (λ c. tail_line (row_of form.kind a.0 b.0 c.0 0) form.tail c.1)))) (read_slot row.a small-a (ltb 0 r) b0 b-stops s.0)
    ∙ ap (λ x. and_on x (λ b. and_on (register_if (ltb 2 r) b.1) (λ c. tail_line (row_of form.kind row.a b.0 c.0 0) form.tail c.1))) (read_slot row.b small_b (ltb 1 r) c0 c-stops u.0)
    ∙ ap (λ x. and_on x (λ c. tail_line (row_of form.kind row.a row.b c.0 0) form.tail c.1)) (read_slot row.c small-c (ltb 2 r) n0 n-stops u.1)
    ∙ read_tail row.number fit.number form.tail (row_of form.kind row.a row.b row.c 0) q.1
    ∙ ap (λ k. Ok (step (row_of k row.a row.b row.c row.number))) (sym (eqb-true _ _ q.0))

-- the last operand of a raw step
read_last : (kind n : ℕ) → n < 4294967296 → (kind ≡ 10 → n ≤ 5) → operand_in (last_operand kind) (shown_then (Number n) []) ≡ Ok (n, [])
read_last kind n fit h =
    ⊎_elim
    (λ y. ap (λ b. operand_in (cond b operand.Call operand.Number) (shown_then (Number n) [])) y ∙ read_call n fit [] refl (h (eqb-true kind 10 y)))
    (λ y. ap (λ b. operand_in (cond b operand.Call operand.Number) (shown_then (Number n) [])) y ∙ read_number n fit [] refl)
    (cases_Bool (eqb kind 10))

-- a raw step
raw_back : (row : Row) → Known row → Fitting row → line_in (raw_then row []) ≡ Ok (step row)
raw_back row known fit =
    let w = codes "step" in
    let word : Word w = record { some = omega arith; visible = refl } in
    let n0 = shown_then (Number row.number) [] in
    let c0 = shown_then (Number row.c) n0 in
    let b0 = shown_then (Number row.b) c0 in
    let a0 = shown_then (Number row.a) b0 in
    let k0 = shown_then (Number row.kind) a0 in
    let small-k : row.kind < 4294967296 = omega (arith, fit.kind) in
    let small-a : row.a < 4294967296 = omega (arith, fit.a) in
    let small_b : row.b < 4294967296 = omega (arith, fit.b) in
    let small-c : row.c < 4294967296 = omega (arith, fit.c) in
    line_is w k0 word refl refl refl
    ∙ ap (λ x. cond (bytes_eq x (codes "data")) (data_line (rest_in (w ++ k0))) (cond (bytes_eq x (codes "step")) (raw_line (rest_in (w ++ k0))) (Err (fault_at (w ++ k0) expected.Mnemonic)))) (word_is w k0 word refl)
    ∙ ap raw_line (rest_is w k0 word refl)
    ∙ ap (λ x. and_on x (λ k. and_on (operand_in operand.Byte k.1) (λ a. and_on (operand_in operand.Byte a.1) (λ b. and_on (operand_in operand.Byte b.1) (λ c. and_on (operand_in (last_operand k.0) c.1) (λ n. ended_with n.1 (step (row_of k.0 a.0 b.0 c.0 n.0)))))))) (read_kind row.kind small-k a0 refl known.kind)
    ∙ ap (λ x. and_on x (λ a. and_on (operand_in operand.Byte a.1) (λ b. and_on (operand_in operand.Byte b.1) (λ c. and_on (operand_in (last_operand row.kind) c.1) (λ n. ended_with n.1 (step (row_of row.kind a.0 b.0 c.0 n.0))))))) (read_byte row.a small-a b0 refl fit.a)
    ∙ ap (λ x. and_on x (λ b. and_on (operand_in operand.Byte b.1) (λ c. and_on (operand_in (last_operand row.kind) c.1) (λ n. ended_with n.1 (step (row_of row.kind row.a b.0 c.0 n.0)))))) (read_byte row.b small_b c0 refl fit.b)
    ∙ ap (λ x. and_on x (λ c. and_on (operand_in (last_operand row.kind) c.1) (λ n. ended_with n.1 (step (row_of row.kind row.a row.b c.0 n.0))))) (read_byte row.c small-c n0 refl fit.c)
    ∙ ap (λ x. and_on x (λ n. ended_with n.1 (step (row_of row.kind row.a row.b row.c n.0)))) (read_last row.kind row.number fit.number known.call)

by_form_back : (o : Option Form) (row : Row) → form_of (name_of row) ≡ o → Known row → Fitting row → line_in (by_form o row []) ≡ Ok (step row)
by_form_back None row e known fit = raw_back row known fit
by_form_back (Some form) row e known fit =
    ⊎_elim
    (λ y. ap line_in (cond-true (fits form row) _ _ y) ∙ plain_back form row e y fit)
    (λ n. ap line_in (cond-false (fits form row) _ _ n) ∙ raw_back row known fit)
    (cases_Bool (fits form row))

-- the line of a step is read as that step
pub line_back : (row : Row) → Known row → Fitting row → line_in (line_then row []) ≡ Ok (step row)
unfolding line_then
line_back row known fit = by_form_back (form_of (name_of row)) row refl known fit

-- what follows a line
shown_append : (x : Shown) (u v b : List ℕ) → u ≡ v ++ b → shown_then x u ≡ shown_then x v ++ b
shown_append Nothing u v b e = e
shown_append (Register n) u v b e = ap (λ t. 32 ∷ 114 ∷ (decimal n ++ t)) e ∙ ap (λ t. 32 ∷ 114 ∷ t) (sym (append_assoc (decimal n) v b))
shown_append (Number n) u v b e = ap (λ t. 32 ∷ (decimal n ++ t)) e ∙ ap (λ t. 32 ∷ t) (sym (append_assoc (decimal n) v b))

raw_append : (row : Row) (b : List ℕ) → raw_then row b ≡ raw_then row [] ++ b
raw_append row b =
    ap (λ t. codes "step" ++ t)
    (shown_append (Number row.kind) _ _ b (shown_append (Number row.a) _ _ b (shown_append (Number row.b) _ _ b
    (shown_append (Number row.c) _ _ b (shown_append (Number row.number) b [] b refl)))))

plain_append : (form : Form) (row : Row) (b : List ℕ) → plain_then (name_of row) form row b ≡ plain_then (name_of row) form row [] ++ b
plain_append form row b =
    ap (λ t. name_of row ++ t)
    (shown_append (slot (ltb 0 form.registers) row.a) _ _ b (shown_append (slot (ltb 1 form.registers) row.b) _ _ b
    (shown_append (slot (ltb 2 form.registers) row.c) _ _ b (shown_append (tail_shown form.tail row.number) b [] b refl))))
    ∙ sym (append_assoc (name_of row) _ b)

by_form-append : (o : Option Form) (row : Row) (b : List ℕ) → by_form o row b ≡ by_form o row [] ++ b
by_form-append None row b = raw_append row b
by_form-append (Some form) row b = go (fits form row)
  where
    go : (t : Bool) → cond t (plain_then (name_of row) form row b) (raw_then row b) ≡ cond t (plain_then (name_of row) form row []) (raw_then row []) ++ b
    go true = plain_append form row b
    go false = raw_append row b

pub line_append : (row : Row) (b : List ℕ) → line_then row b ≡ line_then row [] ++ b
unfolding line_then
line_append row b = by_form-append (form_of (name_of row)) row b

-- no line feed is in a line
abbrev pub NoFeed : List ℕ → Type 0
NoFeed t = prefix_len (has Line) t ≡ length t

visible_line : (b : ℕ) → has Visible b ≡ true → has Line b ≡ true
visible_line b e =
    let low = leb-true 33 b (and_parts (leb 33 b) (leb b 126) e).0 in
    ap not (ne_eqb b 10 (λ z. omega arith))

-- a number that is shown is of 32 bits
abbrev ShownFits : Shown → Type 0
ShownFits Nothing = Unit {0}
ShownFits (Register n) = n < 4294967296
ShownFits (Number n) = n < 4294967296

digits_feed : (n : ℕ) (t : List ℕ) → n < 4294967296 → NoFeed t → NoFeed (decimal n ++ t)
digits_feed n t h f = all_append (has Line) (decimal n) t (widen (has Visible) (has Line) visible_line (decimal n) (digits_visible n h)) f

shown_feed : (x : Shown) (t : List ℕ) → ShownFits x → NoFeed t → NoFeed (shown_then x t)
shown_feed Nothing t h f = f
shown_feed (Register n) t h f = let e = digits_feed n t h f in omega arith
shown_feed (Number n) t h f = let e = digits_feed n t h f in omega arith

slot_small : (b : Bool) (n : ℕ) → n < 256 → ShownFits (slot b n)
slot_small true n h = omega arith
slot_small false n h = tt

tail_small : (x : Tail) (n : ℕ) → n < 4294967296 → ShownFits (tail_shown x n)
tail_small (tail.Fixed fixed) n h = tt
tail_small tail.Number n h = h
tail_small tail.Target n h = h

plain_feed : (form : Form) (row : Row) → Fitting row → NoFeed (plain_then (name_of row) form row [])
plain_feed form row fit =
    all_append (has Line) (name_of row) _ (widen (has Visible) (has Line) visible_line (name_of row) (name_of_lem row).visible)
    (shown_feed (slot (ltb 0 form.registers) row.a) _ (slot_small (ltb 0 form.registers) row.a fit.a)
    (shown_feed (slot (ltb 1 form.registers) row.b) _ (slot_small (ltb 1 form.registers) row.b fit.b)
    (shown_feed (slot (ltb 2 form.registers) row.c) _ (slot_small (ltb 2 form.registers) row.c fit.c)
    (shown_feed (tail_shown form.tail row.number) [] (tail_small form.tail row.number fit.number) refl))))

raw_feed : (row : Row) → Fitting row → NoFeed (raw_then row [])
raw_feed row fit =
    let n0 = shown_then (Number row.number) [] in
    let c0 = shown_then (Number row.c) n0 in
    let b0 = shown_then (Number row.b) c0 in
    let a0 = shown_then (Number row.a) b0 in
    all_append (has Line) (codes "step") (shown_then (Number row.kind) a0) refl
    (shown_feed (Number row.kind) a0 (omega (arith, fit.kind)) (shown_feed (Number row.a) b0 (omega (arith, fit.a))
    (shown_feed (Number row.b) c0 (omega (arith, fit.b)) (shown_feed (Number row.c) n0 (omega (arith, fit.c))
    (shown_feed (Number row.number) [] fit.number refl)))))

by_form_feed : (o : Option Form) (row : Row) → Fitting row → NoFeed (by_form o row [])
by_form_feed None row fit = raw_feed row fit
by_form_feed (Some form) row fit = by_cond NoFeed (fits form row) _ _ (plain_feed form row fit) (raw_feed row fit)

pub line_feed : (row : Row) → Fitting row → NoFeed (line_then row [])
unfolding line_then
line_feed row fit = by_form_feed (form_of (name_of row)) row fit
