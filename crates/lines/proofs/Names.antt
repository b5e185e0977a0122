-- Names compared byte by byte. Assumes nothing.
use Rattle.std.proofs.Common.{◌≡◌, ℕ, suc, true, ◌&&◌, eqb, List, [], ◌∷◌, length, map, sym, refl, ap, arith}
use Rattle.std.proofs.lemmas.Bool.{and_parts, true≢false}
use Rattle.std.proofs.lemmas.Bool.Decides.{nat_tests}
use Rattle.std.specs.Char.{to_ascii_lowercase}
use Rattle.std.specs.Str.{bytes_eq}
use Rattle.lines.specs.Lines.{small, same_name}

pub name_length : (xs ys : List ℕ) → same_name xs ys ≡ true → length xs ≡ length ys
name_length [] [] e = refl
name_length [] (y ∷ ys) e = absurd (true≢false (sym e))
name_length (x ∷ xs) [] e = absurd (true≢false (sym e))
name_length (x ∷ xs) (y ∷ ys) e = ap suc (name_length xs ys (and_parts (eqb (small x) (small y)) (same_name xs ys) e).1)

-- the same test by the names in small letters
small_lower : (b : ℕ) → small b ≡ to_ascii_lowercase b
small_lower b = grind (arith, nat_tests)

pub name_lower : (xs ys : List ℕ) → same_name xs ys ≡ bytes_eq (map to_ascii_lowercase xs) (map to_ascii_lowercase ys)
name_lower [] [] = refl
name_lower [] (y ∷ ys) = refl
name_lower (x ∷ xs) [] = refl
name_lower (x ∷ xs) (y ∷ ys) = λ i. eqb (small_lower x i) (small_lower y i) && name_lower xs ys i
