-- What a small text stands for. Assumes nothing.
use Rattle.std.specs.Prelude.{ℕ, List, drop}
use Rattle.octets.specs.declared.small.SmallText.{SmallText}

-- its bytes: the end of the array
abbrev pub text_of : SmallText → List ℕ
text_of t = drop t.from t.bytes
