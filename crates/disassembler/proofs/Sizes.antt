-- A line has at most 40 bytes.
use Rattle.std.proofs.Common.{◌≡◌, ℕ, ◌+◌, ◌<◌, ◌≤◌, Bool, true, false, cond, eqb, ltb, leb, List, [], ◌∷◌, length, Some, None, codes, decimal, Option, refl, arith, length-append}
use Rattle.std.proofs.lemmas.Fmt.{length-decimal-le}
use Rattle.std.proofs.lemmas.Bool.{leb-true}
use Rattle.script_lines.specs.declared.Row.{Row}
use Rattle.script_lines.specs.declared.forms.Form.{Form}
use Rattle.script_lines.specs.declared.forms.Tail.{Tail}
use Rattle.script_lines.specs.declared.forms.Tail.TheVariants as tail
use Rattle.script_lines.specs.Forms.{form_of}
use Rattle.disassembler.specs.declared.lines.Shown.TheVariants.{Number}
use Rattle.disassembler.specs.Lines.{name_of, shown_then, slot, tail_shown, plain_then, raw_then, by_form, fits, line_then}

-- what holds of both values of a test holds of its answer
pub by_cond : {A : Type 0} (P : A → Type 0) (b : Bool) (x y : A) → P x → P y → P (cond b x y)
by_cond P true x y p q = p
by_cond P false x y p q = q

-- the mnemonics pass a test, and none at all passes it too
abbrev pub Passes : (List ℕ → Bool) → Type 0
Passes test =
    (test [] ≡ true)
    × (test (codes "const") ≡ true) × (test (codes "move") ≡ true) × (test (codes "sum") ≡ true) × (test (codes "product") ≡ true)
    × (test (codes "equal") ≡ true) × (test (codes "less") ≡ true) × (test (codes "jump") ≡ true) × (test (codes "jump_if") ≡ true)
    × (test (codes "load") ≡ true) × (test (codes "store") ≡ true) × (test (codes "wait") ≡ true) × (test (codes "ask") ≡ true)
    × (test (codes "say") ≡ true) × (test (codes "keep") ≡ true) × (test (codes "look") ≡ true) × (test (codes "open") ≡ true)

-- then what a step is called passes it
pub names_pass : (test : List ℕ → Bool) → Passes test → (row : Row) → test (name_of row) ≡ true
unfolding name_of
names_pass test p row =
    let P : List ℕ → Type 0 = λ w. test w ≡ true in
    let k = row.kind in
    let n = row.number in
    by_cond P (eqb k 0) _ _ p.1
    (by_cond P (eqb k 1) _ _ p.2
    (by_cond P (eqb k 2) _ _ p.3
    (by_cond P (eqb k 3) _ _ p.4
    (by_cond P (eqb k 4) _ _ p.5
    (by_cond P (eqb k 5) _ _ p.6
    (by_cond P (eqb k 6) _ _ p.7
    (by_cond P (eqb k 7) _ _ p.8
    (by_cond P (eqb k 8) _ _ p.9
    (by_cond P (eqb k 9) _ _ p.10
    (by_cond P (eqb k 10) _ _
    (by_cond P (eqb n 0) _ _ p.11
    (by_cond P (eqb n 1) _ _ p.12
    (by_cond P (eqb n 2) _ _ p.13
    (by_cond P (eqb n 3) _ _ p.14
    (by_cond P (eqb n 4) _ _ p.15
    (by_cond P (eqb n 5) _ _ p.16 p.0)))))
    ) p.0))))))))))

pub name_short : (row : Row) → length (name_of row) ≤ 7
name_short row =
    leb-true _ _ (names_pass (λ w. leb (length w) 7) (refl, refl, refl, refl, refl, refl, refl, refl, refl, refl, refl, refl, refl, refl, refl, refl, refl) row)

-- a place takes at most five bytes, and a number at most eleven
place_short : (b : Bool) (n : ℕ) (rest : List ℕ) → n < 256 → length (shown_then (slot b n) rest) ≤ 5 + length rest
place_short false n rest h = omega arith
place_short true n rest h =
    let d = length-decimal-le 3 n (omega arith) (omega arith) (omega arith) in
    omega (arith, d, length-append (decimal n) rest)

number_short : (n : ℕ) (rest : List ℕ) → n < 4294967296 → length (shown_then (Number n) rest) ≤ 11 + length rest
number_short n rest h =
    let d = length-decimal-le 10 n (omega arith) (omega arith) (omega arith) in
    omega (arith, d, length-append (decimal n) rest)

byte_short : (n : ℕ) (rest : List ℕ) → n < 256 → length (shown_then (Number n) rest) ≤ 4 + length rest
byte_short n rest h =
    let d = length-decimal-le 3 n (omega arith) (omega arith) (omega arith) in
    omega (arith, d, length-append (decimal n) rest)

tail_short : (t : Tail) (n : ℕ) (rest : List ℕ) → n < 4294967296 → length (shown_then (tail_shown t n) rest) ≤ 11 + length rest
tail_short (tail.Fixed fixed) n rest h = omega arith
tail_short tail.Number n rest h = number_short n rest h
tail_short tail.Target n rest h = number_short n rest h

-- a step whose places and number fit
pub record Fitting (row : Row) : Type 0 where
  pub kind : row.kind < 256
  pub a : row.a < 256
  pub b : row.b < 256
  pub c : row.c < 256
  pub number : row.number < 4294967296

raw_short : (row : Row) → Fitting row → length (raw_then row (10 ∷ [])) ≤ 40
raw_short row f =
    let e = number_short row.number (10 ∷ []) f.number in
    let d = byte_short row.c (shown_then (Number row.number) (10 ∷ [])) f.c in
    let c = byte_short row.b (shown_then (Number row.c) (shown_then (Number row.number) (10 ∷ []))) f.b in
    let b = byte_short row.a (shown_then (Number row.b) (shown_then (Number row.c) (shown_then (Number row.number) (10 ∷ [])))) f.a in
    let a = byte_short row.kind (shown_then (Number row.a) (shown_then (Number row.b) (shown_then (Number row.c) (shown_then (Number row.number) (10 ∷ []))))) f.kind in
    omega (arith, a, b, c, d, e)

plain_short : (form : Form) (row : Row) → Fitting row → length (plain_then (name_of row) form row (10 ∷ [])) ≤ 40
plain_short form row f =
    let n = shown_then (tail_shown form.tail row.number) (10 ∷ []) in
    let c = shown_then (slot (ltb 2 form.registers) row.c) n in
    let b = shown_then (slot (ltb 1 form.registers) row.b) c in
    let a = shown_then (slot (ltb 0 form.registers) row.a) b in
    omega (
      arith,
      name_short row,
      tail_short form.tail row.number (10 ∷ []) f.number,
      place_short (ltb 2 form.registers) row.c n f.c,
      place_short (ltb 1 form.registers) row.b c f.b,
      place_short (ltb 0 form.registers) row.a b f.a,
      length-append (name_of row) a,
    )

by_form_short : (o : Option Form) (row : Row) → Fitting row → length (by_form o row (10 ∷ [])) ≤ 40
by_form_short None row f = raw_short row f
by_form_short (Some form) row f =
    by_cond (λ (l : List ℕ). length l ≤ 40) (fits form row) _ _ (plain_short form row f) (raw_short row f)

pub line_short : (row : Row) → Fitting row → length (line_then row (10 ∷ [])) ≤ 40
unfolding line_then
line_short row f = by_form_short (form_of (name_of row)) row f
