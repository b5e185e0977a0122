-- Words that were written are read back.
use Rattle.std.proofs.Common.{◌≡◌, ℕ, suc, ◌+◌, ◌<◌, ◌≤◌, Bool, true, false, leb, List, [], ◌∷◌, ◌++◌, length, take, drop, Some, Ok, codes, decimal, sym, refl, ap, ◌∙◌, subst, ⊎_elim, arith}
use Rattle.std.specs.List.{prefix_len}
use Rattle.std.proofs.lemmas.Fmt.{decimal_nonempty}
use Rattle.std.proofs.lemmas.List.{take_all}
use Rattle.std.proofs.lemmas.Bool.{cond-true, cond-false, cases_Bool, leb-true, le-leb, eqb-true, ne_eqb, and_parts, and_from}
use Rattle.std.proofs.lemmas.Bool.Decides.{nat_tests}
use Rattle.octets.specs.declared.Class.TheVariants.{Blank, Visible}
use Rattle.octets.specs.Classes.{has, is_digit}
use Rattle.octets.specs.Fronts.{after, front, past}
use Rattle.octets.proofs.Fronts.{front-append, past-append, all-front}
use Rattle.octets.proofs.Numbers.{number-decimal, number_digits}
use Rattle.script_lines.specs.declared.Row.{Row}
use Rattle.script_lines.specs.declared.Expected.TheVariants as expected
use Rattle.script_lines.specs.declared.Operand.{Operand}
use Rattle.script_lines.specs.declared.Operand.TheVariants as operand
use Rattle.script_lines.specs.declared.forms.Tail.{Tail}
use Rattle.script_lines.specs.declared.forms.Tail.TheVariants as tail
use Rattle.script_lines.specs.Words.{decimal_in, hex_or_char, or_else, number_in}
use Rattle.script_lines.specs.Operands.{skipped, word_in, rest_in, under, value_in, and_on, taken, operand_in, register_if}
use Rattle.script_lines.specs.Reading.{step, numbered, ended_with, by_number, target_in, tail_line}
use Rattle.disassembler.specs.declared.lines.Shown.{Shown}
use Rattle.disassembler.specs.declared.lines.Shown.TheVariants.{Nothing, Register, Number}
use Rattle.disassembler.specs.Lines.{shown_then, slot, slot_fits, tail_shown, tail_fits}

-- what one class has, another has too
pub widen : (c e : ℕ → Bool) → ((b : ℕ) → c b ≡ true → e b ≡ true) → (s : List ℕ) → prefix_len c s ≡ length s → prefix_len e s ≡ length s
widen c e w s h =
    let whole : front c s ≡ s = ap (λ n. take n s) h ∙ take_all (length s) s (omega arith) in
    subst (λ (t : List ℕ). prefix_len e t ≡ length t) whole (all-front c e w s)

digit_visible : (b : ℕ) → is_digit b ≡ true → has Visible b ≡ true
digit_visible b e =
    let p = and_parts (leb 48 b) (leb b 57) e in
    let low = leb-true 48 b p.0 in
    let high = leb-true b 57 p.1 in
    and_from _ _ (le-leb 33 b (omega arith)) (le-leb b 126 (omega arith))

not_blank : (b : ℕ) → has Visible b ≡ true → has Blank b ≡ false
not_blank b e = let low = leb-true 33 b (and_parts (leb 33 b) (leb b 126) e).0 in grind (arith, nat_tests)

-- a word: some bytes, all of them visible
pub record Word (w : List ℕ) : Type 0 where
  pub some : 0 < length w
  pub visible : prefix_len (has Visible) w ≡ length w

-- what ends a word
abbrev pub Stops : List ℕ → Type 0
Stops t = prefix_len (has Visible) t ≡ 0

-- no blank is before a word
pub no_skip : (w t : List ℕ) → Word w → prefix_len (has Blank) (w ++ t) ≡ 0
no_skip [] t word = let h = word.some in absurd (omega arith)
no_skip (b ∷ w) t word =
    ⊎_elim
    (λ y. cond-false _ _ _ (not_blank b y))
    (λ n. let z : 0 ≡ suc (length w) = sym (cond-false (has Visible b) (1 + prefix_len (has Visible) w) 0 n) ∙ word.visible in absurd (omega arith))
    (cases_Bool (has Visible b))

module _ (w t : List ℕ) (word : Word w) (stops : Stops t) where
  pub skips : skipped (w ++ t) ≡ w ++ t
  skips = ap (λ n. drop n (w ++ t)) (no_skip w t word)

  pub word_is : word_in (w ++ t) ≡ w
  word_is = ap (front (has Visible)) skips ∙ front-append (has Visible) w t word.visible stops

  pub rest_is : rest_in (w ++ t) ≡ t
  rest_is = ap (past (has Visible)) skips ∙ past-append (has Visible) w t word.visible stops

  -- the same after a space
  skips_space : skipped (32 ∷ (w ++ t)) ≡ w ++ t
  skips_space = let one : 1 + prefix_len (has Blank) (w ++ t) ≡ 1 = omega (arith, no_skip w t word) in ap (λ n. drop n (32 ∷ (w ++ t))) one

  word_after : word_in (32 ∷ (w ++ t)) ≡ w
  word_after = ap (front (has Visible)) skips_space ∙ front-append (has Visible) w t word.visible stops

  rest-after : rest_in (32 ∷ (w ++ t)) ≡ t
  rest-after = ap (past (has Visible)) skips_space ∙ past-append (has Visible) w t word.visible stops

  pub operand_at : (o : Operand) (n : ℕ) → value_in o w ≡ Some n → operand_in o (32 ∷ (w ++ t)) ≡ Ok (n, t)
  operand_at o n e =
      ap (λ x. taken x (expected.Operand o) (32 ∷ (w ++ t))) (ap (value_in o) word_after ∙ e)
      ∙ ap (λ r. Ok (n, r)) rest-after

  pub target_at : (row : Row) (n : ℕ) → number_in w ≡ Some n → t ≡ [] → target_in row (32 ∷ (w ++ t)) ≡ Ok (step (numbered row n))
  target_at row n e none =
      ap (λ x. by_number x row (32 ∷ (w ++ t))) (ap number_in word_after ∙ e)
      ∙ ap (λ r. ended_with r (step (numbered row n))) (rest-after ∙ none)

pub stops_shown : (x : Shown) (t : List ℕ) → Stops t → Stops (shown_then x t)
stops_shown Nothing t h = h
stops_shown (Register n) t h = refl
stops_shown (Number n) t h = refl

-- digits are a word
module _ (n : ℕ) (fits : n < 4294967296) where
  pub digits_visible : prefix_len (has Visible) (decimal n) ≡ length (decimal n)
  digits_visible =
      widen is_digit (has Visible) digit_visible (decimal n)
      (number_digits n 0 n (decimal n) (number-decimal n n (omega arith) (omega arith)))

  pub digits_word : Word (decimal n)
  digits_word = record { some = decimal_nonempty n (omega arith); visible = digits_visible }

  register-word : Word (114 ∷ decimal n)
  register-word = record { some = omega arith; visible = (let e = digits_visible in omega arith) }

  decimal-at : (max : ℕ) → n ≤ max → decimal_in max (decimal n) ≡ Some n
  decimal-at max h =
      let some = decimal_nonempty n (omega arith) in
      cond-false _ _ _ (ne_eqb (length (decimal n)) 0 (λ e. omega arith)) ∙ number-decimal max n h (omega arith)

  pub number_at : number_in (decimal n) ≡ Some n
  number_at = ap (λ o. or_else o (hex_or_char (after (codes "0x") (decimal n)) (decimal n))) (decimal-at 4294967295 (omega arith))

  under_at : (max : ℕ) → n ≤ max → under max (number_in (decimal n)) ≡ Some n
  under_at max h = ap (under max) number_at ∙ cond-true _ _ _ (le-leb n max h)

  -- a number that is written is read
  pub read_number : (t : List ℕ) → Stops t → operand_in operand.Number (shown_then (Number n) t) ≡ Ok (n, t)
  read_number t stops = operand_at (decimal n) t digits_word stops operand.Number n (under_at 4294967295 (omega arith))

  pub read_byte : (t : List ℕ) → Stops t → n < 256 → operand_in operand.Byte (shown_then (Number n) t) ≡ Ok (n, t)
  read_byte t stops h = operand_at (decimal n) t digits_word stops operand.Byte n (under_at 255 (omega arith))

  pub read_kind : (t : List ℕ) → Stops t → n ≤ 10 → operand_in operand.Kind (shown_then (Number n) t) ≡ Ok (n, t)
  read_kind t stops h = operand_at (decimal n) t digits_word stops operand.Kind n (under_at 10 h)

  pub read_call : (t : List ℕ) → Stops t → n ≤ 5 → operand_in operand.Call (shown_then (Number n) t) ≡ Ok (n, t)
  read_call t stops h = operand_at (decimal n) t digits_word stops operand.Call n (under_at 5 h)

  -- a place that is written is read, and one that is not is 0
  pub read_slot : (b : Bool) (t : List ℕ) → Stops t → slot_fits b n ≡ true → register_if b (shown_then (slot b n) t) ≡ Ok (n, t)
  read_slot false t stops h = ap (λ m. Ok (m, t)) (sym (eqb-true n 0 h))
  read_slot true t stops h = operand_at (114 ∷ decimal n) t register-word stops operand.Register n (decimal-at 31 (leb-true n 31 h))

  -- the last operand
  pub read_tail : (x : Tail) (row : Row) → tail_fits x n ≡ true → tail_line row x (shown_then (tail_shown x n) []) ≡ Ok (step (numbered row n))
  read_tail (tail.Fixed fixed) row h = ap (λ m. Ok (step (numbered row m))) (sym (eqb-true n fixed h))
  read_tail tail.Number row h = ap (λ r. and_on r (λ p. ended_with p.1 (step (numbered row p.0)))) (read_number [] refl)
  read_tail tail.Target row h = target_at (decimal n) [] digits_word refl row n number_at refl
