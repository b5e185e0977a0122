-- A number that was written is read back, and what is read is in its range. Assumes nothing.
use Rattle.std.proofs.Common.{◌≡◌, ℕ, suc, ◌+◌, ◌-◌, ◌*◌, ◌/◌, ◌%◌, ◌^◌, ◌<◌, ◌≤◌, true, false, cond, ◌&&◌, leb, List, [], ◌∷◌, ◌++◌, length, Some, None, decimal, Option, refl, ap, ◌∙◌, arith}
use Rattle.std.specs.List.{prefix_len}
use Rattle.std.proofs.lemmas.Bool.{cond-true, and_from, and_parts, le-leb, leb-true}
use Rattle.std.proofs.lemmas.Fmt.{decimal_by_steps}
use Rattle.octets.specs.Classes.{is_digit}
use Rattle.octets.specs.Fronts.{and_then}
use Rattle.octets.specs.Numbers.{number}
use Rattle.octets.proofs.Options.{cond-some}

-- one digit more at the end
digit : ℕ → ℕ → ℕ → Option ℕ
digit max d n = cond (is_digit d && leb (n * 10 + (d - 48)) max) (Some (n * 10 + (d - 48))) None

number_push : (max n d : ℕ) (ds : List ℕ) → number max n (ds ++ (d ∷ [])) ≡ and_then (number max n ds) (digit max d)
unfolding digit
number_push max n d [] = refl
number_push max n d (x ∷ ds) =
    elim (is_digit x && leb (n * 10 + (x - 48)) max) as (λ b. cond b (number max (n * 10 + (x - 48)) (ds ++ (d ∷ []))) None ≡ and_then (cond b (number max (n * 10 + (x - 48)) ds) None) (digit max d))
    [ true ↦ number_push max (n * 10 + (x - 48)) d ds | false ↦ refl ]

took : (max d n v : ℕ) → is_digit d ≡ true → n * 10 + (d - 48) ≡ v → v ≤ max → digit max d n ≡ Some v
unfolding digit
took max d n v p e h = cond-true _ _ _ (and_from _ _ p (le-leb _ _ (omega arith))) ∙ ap Some e

is_digit_lem : (m : ℕ) → m < 10 → is_digit (48 + m) ≡ true
is_digit_lem m h = and_from _ _ (le-leb 48 (48 + m) (omega arith)) (le-leb (48 + m) 57 (omega arith))

pub number-decimal : (max n : ℕ) → n ≤ max → n < 2 ^ 64 → number max 0 (decimal n) ≡ Some n
unfolding digit
number-decimal max n h f =
    decimal_by_steps (λ m ds. m ≤ max → number max 0 ds ≡ Some m)
    (λ m l g. took max (48 + m) 0 m (is_digit_lem m l) (omega arith) g)
    (λ m ds l was g. number_push max 0 (48 + m % 10) ds ∙ ap (λ o. and_then o (digit max (48 + m % 10))) (was (omega arith)) ∙ took max (48 + m % 10) (m / 10) m (is_digit_lem (m % 10) (omega arith)) (omega arith) g)
    n f h

-- the first digit of a number
pub digit_step : (max n v d : ℕ) (ds : List ℕ) → number max n (d ∷ ds) ≡ Some v → (is_digit d ≡ true) × (n * 10 + (d - 48) ≤ max) × (number max (n * 10 + (d - 48)) ds ≡ Some v)
digit_step max n v d ds e =
    let h = cond-some (is_digit d && leb (n * 10 + (d - 48)) max) (number max (n * 10 + (d - 48)) ds) v e in
    let p = and_parts (is_digit d) (leb (n * 10 + (d - 48)) max) h.0 in
    (p.0, leb-true (n * 10 + (d - 48)) max p.1, h.1)

-- what is a number has digits only, and is in its range
pub number_digits : (max n v : ℕ) (ds : List ℕ) → number max n ds ≡ Some v → prefix_len is_digit ds ≡ length ds
number_digits max n v [] e = refl
number_digits max n v (d ∷ ds) e =
    let h = digit_step max n v d ds e in
    let g : 1 + prefix_len is_digit ds ≡ suc (length ds) = omega (arith, number_digits max (n * 10 + (d - 48)) v ds h.2) in
    cond-true (is_digit d) (1 + prefix_len is_digit ds) 0 h.0 ∙ g

pub number_range : (max n v : ℕ) (ds : List ℕ) → n ≤ max → number max n ds ≡ Some v → (n ≤ v) × (v ≤ max)
number_range max n v [] l e = let s : n ≡ v = cc in (omega arith, omega arith)
number_range max n v (d ∷ ds) l e =
    let h = digit_step max n v d ds e in
    let r = number_range max (n * 10 + (d - 48)) v ds h.1 h.2 in
    (omega (arith, r.0), r.1)
