-- One label of a host after another. Assumes nothing.
use Rattle.std.proofs.Common.{◌≡◌, ℕ, suc, ◌+◌, ◌-◌, ◌<◌, ◌≤◌, Bool, true, false, ◌&&◌, List, codes, Option, sym, ap, ◌∙◌, arith}
use Rattle.std.proofs.lemmas.Bool.{and_left}
use Rattle.octets.specs.declared.Class.TheVariants.{Label}
use Rattle.octets.specs.Classes.{has}
use Rattle.octets.specs.Fronts.{after, front, past}
use Rattle.addresses.specs.Address.{label_ok, dot_then, labels}

pub labels-step : (k : ℕ) (s : List ℕ) → k < 8 → labels (8 - k) s ≡ (label_ok (front (has Label) s) && dot_then (labels (8 - (k + 1))) (after (codes ".") (past (has Label) s)) (past (has Label) s))
unfolding labels
labels-step k s h = let e : 8 - k ≡ suc (8 - (k + 1)) = omega arith in ap (λ n. labels n s) e

pub labels-end : (k : ℕ) (s : List ℕ) → 8 ≤ k → labels (8 - k) s ≡ false
unfolding labels
labels-end k s h = let e : 8 - k ≡ 0 = omega arith in ap (λ n. labels n s) e

and_yes : (x y : Bool) → x ≡ true → (x && y) ≡ y
and_yes x y e = ap (λ b. b && y) e

-- one turn of the loop: l is the label, e what follows it, and o what follows a dot there
module _ (k : ℕ) (s l e : List ℕ) (o : Option (List ℕ)) (h : k < 8) (p : l ≡ front (has Label) s) (q : e ≡ past (has Label) s) where
  pub turn_no : false ≡ label_ok l → labels (8 - k) s ≡ false
  turn_no n = labels-step k s h ∙ and_left _ _ (ap label_ok (sym p) ∙ sym n)

  pub turn_yes : true ≡ label_ok l → o ≡ after (codes ".") e → labels (8 - k) s ≡ dot_then (labels (8 - (k + 1))) o e
  turn_yes y r = labels-step k s h ∙ and_yes _ _ (ap label_ok (sym p) ∙ sym y) ∙ sym ((λ i. dot_then (labels (8 - (k + 1))) (r i) e) ∙ (λ i. dot_then (labels (8 - (k + 1))) (after (codes ".") (q i)) (q i)))
