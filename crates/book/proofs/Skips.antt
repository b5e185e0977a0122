-- Words that do not stand where they are looked for.
use Rattle.std.proofs.Common.{◌≡◌, ℕ, false, List, is_some, Some, None, Option, sym, refl, ap, ◌∙◌}
use Rattle.std.proofs.lemmas.Bool.{true≢false}
use Rattle.octets.specs.Fronts.{after}
use Rattle.words.specs.Scans.{rest_or}
use Rattle.book.specs.Reading.{by_word}

none_there : (o : Option (List ℕ)) → is_some o ≡ false → o ≡ None
none_there None e = refl
none_there (Some t) e = absurd (true≢false e)

-- it was passed over nothing
pub skipped-none : (word s t : List ℕ) → is_some (after word s) ≡ false → t ≡ rest_or (after word s) s → t ≡ s
skipped-none word s t e q = q ∙ ap (λ o. rest_or o s) (none_there (after word s) e)

-- so the others are tried, on what stood there
pub other_word : {A : Type 0} (word s t : List ℕ) (read : List ℕ → Option A) (other : List ℕ → Option A) → t ≡ s → is_some (after word t) ≡ false → by_word (after word s) read (other s) ≡ other s
other_word word s t read other same e = ap (λ o. by_word o read (other s)) (ap (after word) (sym same) ∙ none_there (after word t) e)
