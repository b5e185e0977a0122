-- A place of a list that is set.
use Rattle.std.proofs.Common.{◌≡◌, ℕ, suc, ◌<◌, ◌≤◌, true, false, cond, eqb, leb, ◌⊎◌, List, length, set, Some, sym, ap, ◌∙◌, inl, inr, arith, length-set}
use Rattle.std.proofs.lemmas.List.{get_or-set_same, get_or-set_other}
use Rattle.std.proofs.lemmas.Option.{slice_get-get_or, slice_get_past}
use Rattle.std.proofs.lemmas.Bool.{cond-true, cond-false}
use Rattle.std.proofs.lemmas.Bool.Decides.{leb_tells, eqb_tells}
use Rattle.std.specs.List.{slice_get}

module _ {X : Type 0} (xs : List X) (i : ℕ) (x : X) (h : i < length xs) where
  set_here : slice_get (set xs i x) i ≡ Some x
  set_here =
      let within : i < length (set xs i x) = simp length-set (omega arith) in
      slice_get-get_or (set xs i x) i x within ∙ ap Some (get_or-set_same xs i x x h)

  set_other : (s : ℕ) → (s ≡ i → ⊥) → ((leb (suc s) (length xs) ≡ true) × (suc s ≤ length xs)) ⊎ ((leb (suc s) (length xs) ≡ false) × (length xs < suc s)) → slice_get (set xs i x) s ≡ slice_get xs s
  set_other s e (inl p) =
      let there : s < length xs = omega (arith, p.1) in
      let within : s < length (set xs i x) = simp length-set (omega arith) in
      slice_get-get_or (set xs i x) s x within ∙ ap Some (get_or-set_other xs i s x x e) ∙ sym (slice_get-get_or xs s x there)
  set_other s e (inr p) =
      let away : length xs ≤ s = omega (arith, p.1) in
      let past : length (set xs i x) ≤ s = simp length-set (omega arith) in
      slice_get_past (set xs i x) s past ∙ sym (slice_get_past xs s away)

  set_by : (s : ℕ) → ((eqb s i ≡ true) × (s ≡ i)) ⊎ ((eqb s i ≡ false) × (s ≡ i → ⊥)) → slice_get (set xs i x) s ≡ cond (eqb s i) (Some x) (slice_get xs s)
  set_by s (inl p) = ap (slice_get (set xs i x)) p.1 ∙ set_here ∙ sym (cond-true (eqb s i) _ _ p.0)
  set_by s (inr p) = set_other s p.1 (leb_tells (suc s) (length xs)) ∙ sym (cond-false (eqb s i) _ _ p.0)

  pub nth-set : (s : ℕ) → slice_get (set xs i x) s ≡ cond (eqb s i) (Some x) (slice_get xs s)
  nth-set s = set_by s (eqb_tells s i)
