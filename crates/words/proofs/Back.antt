-- Words that were written are read back.
use Rattle.std.proofs.Common.{◌≡◌, ℕ, ◌+◌, ◌*◌, ◌/◌, ◌%◌, ◌^◌, ◌<◌, ◌≤◌, true, cond, not, eqb, leb, List, [], ◌∷◌, ◌++◌, length, get_or, Some, None, decimal, sym, refl, ap, ◌∙◌, ⊎_elim, append_assoc, arith}
use Rattle.std.specs.List.{prefix_len}
use Rattle.std.proofs.lemmas.Bool.{cond-true, cond-false, cases_Bool, cases_eq, and_from, and_left, le-leb, ne_eqb, or_left, not_from_false}
use Rattle.std.proofs.lemmas.Fmt.{decimal_digit, first_decimal}
use Rattle.std.proofs.lemmas.Bool.Decides.{nat_tests}
use Rattle.octets.specs.declared.Class.TheVariants.{Digit}
use Rattle.octets.specs.Classes.{has, is_digit}
use Rattle.octets.specs.Fronts.{and_then, front, past}
use Rattle.octets.proofs.Fronts.{after-append, front-append, past-append}
use Rattle.octets.proofs.Numbers.{number-decimal, number_digits}
use Rattle.words.specs.Numerals.{unpadded, numeral, number_after}
use Rattle.words.specs.Hex.{hex_digit, hex_of, is_hex, hex_value, pair_then, hex_then, hex_within, bytes_after, AllBytes}
use Rattle.words.proofs.Hexes.{hex_none}

-- a number as it is written has no leading zero
unpadded-decimal : (n : ℕ) → n < 2 ^ 64 → unpadded (decimal n) ≡ true
unpadded-decimal n f =
    ⊎_elim
    (λ z. ap unpadded (ap decimal z ∙ decimal_digit 0 (omega arith)))
    (λ z. starts (decimal n) (first_decimal n (omega arith) f))
    (cases_eq n 0)
  where
    starts : (ds : List ℕ) → 48 < get_or ds 0 0 → unpadded ds ≡ true
    starts [] g = absurd (omega arith)
    starts (d ∷ ds) g = or_left (not (eqb d 48)) (eqb (length ds) 0) (not_from_false (eqb d 48) (ne_eqb d 48 (λ q. omega arith)))

pub number_back : (word : List ℕ) (max n : ℕ) (rest : List ℕ) → n ≤ max → n < 2 ^ 64 → prefix_len is_digit rest ≡ 0 → number_after word max ((word ++ decimal n) ++ rest) ≡ Some (n, rest)
number_back word max n rest most f stops =
    let digits = number_digits n 0 n (decimal n) (number-decimal n n (omega arith) f) in
    let read = λ (t : List ℕ). and_then (numeral max (front (has Digit) t)) (λ m. Some (m, past (has Digit) t)) in
    ap (number_after word max) (append_assoc word (decimal n) rest)
    ∙ ap (λ o. and_then o read) (after-append word (decimal n ++ rest))
    ∙ (λ i. and_then (numeral max (front-append is_digit (decimal n) rest digits stops i)) (λ m. Some (m, past-append is_digit (decimal n) rest digits stops i)))
    ∙ ap (λ o. and_then o (λ m. Some (m, rest))) (cond-true _ _ _ (unpadded-decimal n f) ∙ number-decimal max n most f)

-- a digit is read as what it was written of
digit_back : (m : ℕ) → m < 16 → (is_hex (hex_digit m) ≡ true) × (hex_value (hex_digit m) ≡ m)
digit_back m h = (grind (arith, nat_tests), grind (arith, nat_tests))

no_pair : (s : List ℕ) → prefix_len is_hex s ≡ 0 → None ≡ pair_then s
no_pair [] e = refl
no_pair (a ∷ []) e = refl
no_pair (a ∷ (b ∷ s)) e =
    ⊎_elim
    (λ y. let z : 1 + prefix_len is_hex (b ∷ s) ≡ 0 = sym (cond-true _ _ _ y) ∙ e in absurd (omega arith))
    (λ n. sym (cond-false _ _ _ (and_left _ _ n)))
    (cases_Bool (is_hex a))

hex_back : (bs rest : List ℕ) → AllBytes bs → prefix_len is_hex rest ≡ 0 → hex_then (hex_of bs ++ rest) ≡ (bs, rest)
hex_back [] rest all stops = hex_none rest (no_pair rest stops)
hex_back (b ∷ bs) rest all stops =
    let small : b < 256 = all.0 in
    let high = digit_back (b / 16) (omega arith) in
    let low = digit_back (b % 16) (omega arith) in
    let value : 16 * hex_value (hex_digit (b / 16)) + hex_value (hex_digit (b % 16)) ≡ b = omega (arith, high.1, low.1) in
    cond-true _ _ _ (and_from _ _ high.0 low.0)
    ∙ (λ i. (value i ∷ (hex_back bs rest all.1 stops i).0, (hex_back bs rest all.1 stops i).1))

pub bytes_back : (word : List ℕ) (n : ℕ) (bs rest : List ℕ) → AllBytes bs → length bs ≤ n → prefix_len is_hex rest ≡ 0 → bytes_after word n ((word ++ hex_of bs) ++ rest) ≡ Some (bs, rest)
bytes_back word n bs rest all most stops =
    ap (bytes_after word n) (append_assoc word (hex_of bs) rest)
    ∙ ap (λ o. and_then o (hex_within n)) (after-append word (hex_of bs ++ rest))
    ∙ ap (λ q. cond (leb (length q.0) n) (Some (q.0, q.1)) None) (hex_back bs rest all stops)
    ∙ cond-true _ _ _ (le-leb (length bs) n most)
