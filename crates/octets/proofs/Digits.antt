-- Digits written from the last on. Assumes nothing.
use Rattle.std.proofs.Common.{◌≡◌, ℕ, ◌+◌, ◌-◌, ◌/◌, ◌%◌, ◌^◌, ◌<◌, ◌≤◌, List, [], ◌∷◌, ◌++◌, length, drop, set, decimal, sym, ap, ◌∙◌, append_assoc, arith, length-append}
use Rattle.std.proofs.lemmas.List.{drop-set}
use Rattle.std.proofs.lemmas.Fmt.{decimal_digit, decimal_step}

-- one byte more, before those from a place on
pub byte_before : (bs : List ℕ) (at b : ℕ) → 0 < at → at ≤ length bs → drop (at - 1) (set bs (at - 1) b) ≡ b ∷ drop at bs
byte_before bs at b some within =
    let e : at - 1 + 1 ≡ at = omega arith in
    drop-set bs (at - 1) b (omega arith) ∙ ap (λ k. b ∷ drop k bs) e

-- one digit more, before those at the end of bs
module _ (n m at d : ℕ) (bs : List ℕ) (so : decimal n ≡ decimal m ++ drop at bs) (short : length (decimal m) < at) (within : at ≤ 21) (long : length bs ≡ 21) where
  last : drop (at - 1) (set bs (at - 1) d) ≡ d ∷ drop at bs
  last = byte_before bs at d (omega arith) (omega arith)

  pub digit_more : 10 ≤ m → m < 2 ^ 64 → d ≡ 48 + m % 10 → (decimal n ≡ decimal (m / 10) ++ drop (at - 1) (set bs (at - 1) d)) × (length (decimal (m / 10)) < at - 1)
  digit_more h f e =
      let step : decimal m ≡ decimal (m / 10) ++ ((48 + m % 10) ∷ []) = decimal_step m h f in (
        so ∙ ap (λ l. l ++ drop at bs) step ∙ append_assoc (decimal (m / 10)) ((48 + m % 10) ∷ []) (drop at bs) ∙ ap (λ l. decimal (m / 10) ++ l) (sym (last ∙ ap (λ x. x ∷ drop at bs) e)),
        omega (arith, ap length step ∙ length-append (decimal (m / 10)) ((48 + m % 10) ∷ [])),
      )

  pub digit_last : m < 10 → d ≡ 48 + m → drop (at - 1) (set bs (at - 1) d) ≡ decimal n
  digit_last h e = last ∙ ap (λ x. x ∷ drop at bs) e ∙ sym (so ∙ ap (λ l. l ++ drop at bs) (decimal_digit m h))

  pub digit_room : m < 10 → 0 < at - 1
  digit_room h = omega (arith, ap length (decimal_digit m h))
