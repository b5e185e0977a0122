-- Exchanges one after another.
use Rattle.std.proofs.Common.{◌≡◌, ℕ, List, [], ◌∷◌, ◌++◌, Some, None, Option, is_some, refl, ap, sym, subst}
use Rattle.pipes.specs.Serving.{Exchange, Took, Served, Asks, ServedOnce}

module _ {C : Type 0} (carries : ℕ → C → ℕ → List ℕ → List ℕ → C → Type 0) (room : ℕ) (sites : List (List ℕ × ℕ)) where
  took_on : (ys xs : List Exchange) (a b c : C) → Took carries room sites xs a b → Took carries room sites ys b c → Took carries room sites (ys ++ xs) a c
  took_on [] xs a b c p q = subst (λ (d : C). Took carries room sites xs a d) (sym q) p
  took_on (y ∷ ys) xs a b c p q = (q.0, took_on ys xs a b q.0 p q.1, q.2, q.3)

  -- in a room that is as large
  pub served-next : (n : ℕ) (a b c : C) → n ≡ room → Served carries room sites a b → Served carries n sites b c → Served carries room sites a c
  served-next n a b c same p later =
      let q = subst (λ (k : ℕ). Served carries k sites b c) same later in
      (q.0 ++ p.0, took_on q.0 p.0 a b c p.1 q.1)

  -- one exchange, or none, is some exchanges
  served_one : (site : List ℕ × ℕ) (x : Option Exchange) (a c : C) → Asks carries room sites site x a c → Served carries room sites a c
  served_one site None a c p = ([], p)
  served_one site (Some x) a c p = (x ∷ [], (a, refl, p.0, ap is_some p.1))

  pub served-once : (site : List ℕ × ℕ) (a c : C) → ServedOnce carries room sites site a c → Served carries room sites a c
  served-once site a c p = served_one site p.0 a c p.1
