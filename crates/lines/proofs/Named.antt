-- The names of one line after another. Assumes nothing.
use Rattle.std.proofs.Common.{◌≡◌, ℕ, suc, ◌+◌, ◌-◌, ◌<◌, ◌≤◌, Bool, false, ◌||◌, List, Some, Option, sym, ap, ◌∙◌, arith}
use Rattle.octets.specs.declared.Class.TheVariants.{Token}
use Rattle.octets.specs.Classes.{has}
use Rattle.octets.specs.Fronts.{front}
use Rattle.lines.specs.Lines.{line_then, same_name, among, names_from, names_of}

-- of n lines, k are read
module _ (n k : ℕ) (x s : List ℕ) where
  pub named_end : n ≤ k → among x (names_of (n - k) s) ≡ false
  unfolding names_of
  named_end h = let e : n - k ≡ 0 = omega arith in ap (λ m. among x (names_of m s)) e

  pub named_turn : (o : Option (List ℕ × List ℕ)) → k < n → o ≡ line_then s → among x (names_of (n - k) s) ≡ among x (names_from (names_of (n - (k + 1))) o)
  unfolding names_of
  named_turn o h q = let e : n - k ≡ suc (n - (k + 1)) = omega arith in ap (λ m. among x (names_of m s)) e ∙ sym (ap (λ p. among x (names_from (names_of (n - (k + 1))) p)) q)

  pub named_more : (l t y : List ℕ) (b : Bool) → k < n → Some (l, t) ≡ line_then s → y ≡ front (has Token) l → b ≡ same_name x y → among x (names_of (n - k) s) ≡ (b || among x (names_of (n - (k + 1)) t))
  named_more l t y b h q e r = named_turn (Some (l, t)) h q ∙ ap (λ a. a || among x (names_of (n - (k + 1)) t)) (sym (r ∙ ap (same_name x) e))
