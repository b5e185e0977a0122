-- What is let out, at the types that the call names.
use Rattle.pages.proofs.LetOuts.{let_out-only, else-nothing}
use Rattle.pages.proofs.moments.let_out_only.Goals as goal

pub returns : goal.returns
returns g c = record { only = let_out-only _ _; otherwise = else-nothing _ _ }
