-- One step more at the end of a run, and of what is seen of it.
use Rattle.std.proofs.Common.{◌≡◌, ℕ, zero, suc, [], ◌∷◌, ◌++◌, refl, ap}
use Rattle.pages.specs.Runs.{iterate, trace}

module _ {W : Type 0} (go : W → W) where
  pub iterate-end : (n : ℕ) (x : W) → iterate go (suc n) x ≡ go (iterate go n x)
  unfolding iterate
  iterate-end zero x = refl
  iterate-end (suc n) x = iterate-end n (go x)

  pub trace-end : {O : Type 0} (see : W → O) (n : ℕ) (x : W) → trace go see (suc n) x ≡ trace go see n x ++ (see (iterate go n x) ∷ [])
  unfolding iterate trace
  trace-end see zero x = refl
  trace-end see (suc n) x = ap (λ z. see x ∷ z) (trace-end see n (go x))

  pub iterate-none : (x : W) → iterate go 0 x ≡ x
  unfolding iterate
  iterate-none x = refl

  pub trace-none : {O : Type 0} (see : W → O) (x : W) → trace go see 0 x ≡ []
  unfolding trace
  trace-none see x = refl
