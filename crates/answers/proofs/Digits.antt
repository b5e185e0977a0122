-- Three digits are read back. Assumes nothing.
use Rattle.std.proofs.Common.{◌≡◌, ℕ, ◌+◌, ◌-◌, ◌*◌, ◌/◌, ◌%◌, ◌<◌, ◌≤◌, ◌&&◌, leb, List, [], ◌∷◌, Some, None, ap, ◌∙◌, arith}
use Rattle.std.proofs.lemmas.Bool.{cond-true, and_from, le-leb}
use Rattle.octets.specs.Classes.{is_digit}
use Rattle.octets.specs.Numbers.{number}
use Rattle.answers.specs.Written.{three_digits}

digit_more : (n d v : ℕ) (ds : List ℕ) → d < 10 → n * 10 + d ≡ v → v ≤ 999 → number 999 n ((48 + d) ∷ ds) ≡ number 999 v ds
digit_more n d v ds small e most =
    let same : n * 10 + (48 + d - 48) ≡ v = omega arith in
    cond-true (is_digit (48 + d) && leb (n * 10 + (48 + d - 48)) 999) (number 999 (n * 10 + (48 + d - 48)) ds) None
    (and_from (is_digit (48 + d)) (leb (n * 10 + (48 + d - 48)) 999) (and_from (leb 48 (48 + d)) (leb (48 + d) 57) (le-leb 48 (48 + d) (omega arith)) (le-leb (48 + d) 57 (omega arith))) (le-leb (n * 10 + (48 + d - 48)) 999 (omega arith)))
    ∙ ap (λ m. number 999 m ds) same

pub three_back : (n : ℕ) → n ≤ 999 → number 999 0 (three_digits n) ≡ Some n
three_back n h =
    digit_more 0 (n / 100) (n / 100) ((48 + n / 10 % 10) ∷ ((48 + n % 10) ∷ [])) (omega arith) (omega arith) (omega arith)
    ∙ digit_more (n / 100) (n / 10 % 10) (n / 10) ((48 + n % 10) ∷ []) (omega arith) (omega arith) (omega arith)
    ∙ digit_more (n / 10) (n % 10) n [] (omega arith) (omega arith) h
