-- What a text by value stands for.
use Rattle.std.specs.Prelude.{ℕ, List, Option}
use Rattle.bounded.specs.declared.text.Text.{Text}
use Rattle.bounded.specs.Fixed.{items_of, up_to}

-- Its bytes.
abbrev pub text_of : {n : ℕ} → Text n → List ℕ
text_of t = items_of t.bytes

-- These bytes, if they are at most n.
abbrev pub at_most : ℕ → List ℕ → Option (List ℕ)
at_most = up_to
