-- A field that was written is read back. Assumes nothing.
use Rattle.std.proofs.Common.{◌≡◌, ℕ, zero, suc, ◌+◌, ◌-◌, ◌<◌, ◌≤◌, Bool, true, false, cond, eqb, List, [], ◌∷◌, ◌++◌, reverse, length, get_or, take, drop, Some, None, codes, sym, refl, ap, ◌∙◌, ⊎_elim, arith, length-append}
use Rattle.std.specs.List.{prefix_len, suffix_len}
use Rattle.std.proofs.lemmas.Bool.{cond-true, cond-false, cases_Bool, ne_eqb}
use Rattle.std.proofs.lemmas.List.{take_all, get_or-reverse, length-reverse}
use Rattle.std.proofs.lemmas.Bool.Decides.{nat_tests}
use Rattle.octets.specs.declared.Class.TheVariants.{Text, Token, Blank, Visible}
use Rattle.octets.specs.Answers.{Read, Fault}
use Rattle.octets.specs.Classes.{has, is_digit}
use Rattle.octets.specs.Fronts.{and_then, after}
use Rattle.octets.proofs.Fronts.{front-append, past-append, all_append}
use Rattle.lines.specs.Lines.{crlf, line_then, trim, trim_end, field_of, field_text, among}
use Rattle.lines.specs.Heads.{Taking, read_then, head}
use Rattle.lines.proofs.Turns.{head_done, head_more}
use Rattle.lines.proofs.Enough.{enough}

-- a line of text and its end
pub line_back : (l t : List ℕ) → prefix_len (has Text) l ≡ length l → line_then (l ++ (crlf ++ t)) ≡ Some (l, t)
line_back l t h =
    (λ i. and_then (after crlf (past-append (has Text) l (crlf ++ t) h refl i)) (λ u. Some (front-append (has Text) l (crlf ++ t) h refl i, u)))

all_parts : (c : ℕ → Bool) (b : ℕ) (s : List ℕ) → prefix_len c (b ∷ s) ≡ suc (length s) → (c b ≡ true) × (prefix_len c s ≡ length s)
all_parts c b s h =
    ⊎_elim
    (λ y. (y, omega (arith, sym (cond-true (c b) (1 + prefix_len c s) 0 y) ∙ h)))
    (λ n. let z : 0 ≡ suc (length s) = sym (cond-false (c b) (1 + prefix_len c s) 0 n) ∙ h in absurd (omega arith))
    (cases_Bool (c b))

-- a class that is part of another
pub all_wider : (c e : ℕ → Bool) → ((b : ℕ) → c b ≡ true → e b ≡ true) → (s : List ℕ) → prefix_len c s ≡ length s → prefix_len e s ≡ length s
all_wider c e w [] h = refl
all_wider c e w (b ∷ s) h =
    let p = all_parts c b s h in
    let g : 1 + prefix_len e s ≡ suc (length s) = omega (arith, all_wider c e w s p.1) in
    cond-true (e b) (1 + prefix_len e s) 0 (w b p.0) ∙ g

-- each byte of such a list is of the class
all-at : (c : ℕ → Bool) (s : List ℕ) (i : ℕ) → prefix_len c s ≡ length s → i < length s → c (get_or s i 0) ≡ true
all-at c [] i h l = absurd (omega arith)
all-at c (b ∷ s) zero h l = (all_parts c b s h).0
all-at c (b ∷ s) (suc i) h l = all-at c s i (all_parts c b s h).1 (omega arith)

visible_text : (b : ℕ) → has Visible b ≡ true → has Text b ≡ true
visible_text b h = grind (arith, nat_tests)

visible_blank : (b : ℕ) → has Visible b ≡ true → has Blank b ≡ false
visible_blank b h = grind (arith, nat_tests)

pub token_text : (b : ℕ) → has Token b ≡ true → has Text b ≡ true
token_text b h = grind (arith, nat_tests)

pub digit_visible : (b : ℕ) → is_digit b ≡ true → has Visible b ≡ true
digit_visible b h = grind (arith, nat_tests)

none-front : (c : ℕ → Bool) (s : List ℕ) → (0 < length s → c (get_or s 0 0) ≡ false) → prefix_len c s ≡ 0
none-front c [] h = refl
none-front c (b ∷ s) h = cond-false (c b) (1 + prefix_len c s) 0 (h (omega arith))

-- a value without white space is the same when it is trimmed
trim_visible : (v : List ℕ) → prefix_len (has Visible) v ≡ length v → trim (32 ∷ v) ≡ v
trim_visible v h =
    let first : prefix_len (has Blank) v ≡ 0 = none-front (has Blank) v (λ l. visible_blank (get_or v 0 0) (all-at (has Visible) v 0 h l)) in
    let last : suffix_len (has Blank) v ≡ 0 = none-front (has Blank) (reverse v) (λ l.
    let k : 0 < length v = omega (arith, length-reverse v) in
    ap (has Blank) (get_or-reverse v 0 0 k) ∙ visible_blank (get_or v (length v - 1 - 0) 0) (all-at (has Visible) v (length v - 1 - 0) h (omega arith))) in
    let one : 1 + prefix_len (has Blank) v ≡ 1 = omega arith in
    let whole : length v - suffix_len (has Blank) v ≡ length v = omega arith in
    ap (λ n. trim_end (drop n (32 ∷ v))) one ∙ ap (λ n. take n v) whole ∙ take_all (length v) v (omega arith)

-- a field with a name of its class and a value without white space
module _ (name v : List ℕ) (token : prefix_len (has Token) name ≡ length name) (some : eqb (length name) 0 ≡ false) (visible : prefix_len (has Visible) v ≡ length v) where
  field_back : field_of (field_text name v) ≡ Some (name, v)
  field_back =
      (λ i. cond (eqb (length (front-append (has Token) name (codes ": " ++ v) token refl i)) 0) None (and_then (after (codes ":") (past-append (has Token) name (codes ": " ++ v) token refl i)) (λ w. Some (front-append (has Token) name (codes ": " ++ v) token refl i, trim w))))
      ∙ cond-false (eqb (length name) 0) None (Some (name, trim (32 ∷ v))) some ∙ ap (λ w. Some (name, w)) (trim_visible v visible)

  field_is_text : prefix_len (has Text) (field_text name v) ≡ length (field_text name v)
  field_is_text = all_append (has Text) name (codes ": " ++ v) (all_wider (has Token) (has Text) token_text name token) (all_append (has Text) (codes ": ") v refl (all_wider (has Visible) (has Text) visible_text v visible))

  -- it is read, and then the others
  pub field_then_lem : {F : Type 0} (taking : Taking F) (names : List (List ℕ)) (f g : F) (rest : List ℕ) → taking f name v ≡ Read g → among name names ≡ false → head taking (length (field_text name v ++ (crlf ++ rest))) names f (field_text name v ++ (crlf ++ rest)) ≡ head taking (length rest) (names ++ (name ∷ [])) g rest
  field_then_lem taking names f g rest takes new =
      let l = field_text name v in
      let s = l ++ (crlf ++ rest) in
      let n = length s in
      let z : n ≡ n - 0 = omega arith in
      let long : length rest ≤ n - (0 + 1) = omega (arith, length-append l (crlf ++ rest)) in
      let more : 0 < n = omega (arith, length-append l (crlf ++ rest)) in
      let read : Read g ≡ read_then (taking f name v) (λ h. cond (among name names) (Fault 7) (Read h)) = sym (ap (λ o. read_then o (λ h. cond (among name names) (Fault 7) (Read h))) takes ∙ cond-false (among name names) (Fault 7) (Read g) new) in
      ap (λ k. head taking k names f s) z
      ∙ head_more taking n 0 names f s l rest name v (Read g) more (sym (line_back l rest field_is_text)) (sym (ne_eqb (length l) 0 (λ q. omega (arith, length-append name (codes ": " ++ v))))) (sym field_back) read
      ∙ enough taking (n - (0 + 1)) (names ++ (name ∷ [])) g rest long

-- the empty line ends them
pub fields-end : {F : Type 0} (taking : Taking F) (names : List (List ℕ)) (f : F) (body : List ℕ) → head taking (length (crlf ++ body)) names f (crlf ++ body) ≡ Read (f, body)
fields-end taking names f body =
    let n = length (crlf ++ body) in
    let z : n ≡ n - 0 = omega arith in
    ap (λ k. head taking k names f (crlf ++ body)) z ∙ head_done taking n 0 names f (crlf ++ body) [] body (omega arith) (sym (line_back [] body refl)) refl
