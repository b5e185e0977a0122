-- Hexadecimal digits in pairs.
use Rattle.std.proofs.Common.{◌≡◌, ℕ, suc, ◌/◌, List, [], ◌∷◌, length, map, refl, ap, ◌∙◌, arith}
use Rattle.std.specs.Simd.{first_chunks}
use Rattle.script_lines.specs.Reading.{pair_value, pairs, pair_byte}

-- what pairs of digits write, cut from a text of digits
pub pairs_are : (ds : List ℕ) → map pair_byte (first_chunks 2 (length ds / 2) ds) ≡ pairs ds
pairs_are [] = refl
pairs_are (d ∷ []) = refl
pairs_are (d ∷ e ∷ ds) =
    let n : length (d ∷ e ∷ ds) / 2 ≡ suc (length ds / 2) = omega arith in
    (λ i. map pair_byte (first_chunks 2 (n i) (d ∷ e ∷ ds))) ∙ ap (λ bs. pair_value d e ∷ bs) (pairs_are ds)
