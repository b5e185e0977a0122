-- As many lines as there are bytes are enough: more read the same. Assumes nothing.
use Rattle.std.proofs.Common.{◌≡◌, ℕ, zero, suc, ◌<◌, ◌≤◌, cond, eqb, List, [], ◌∷◌, ◌++◌, length, Some, None, Option, sym, refl, ap, ◌∙◌, arith, length-drop}
use Rattle.std.specs.List.{prefix_len}
use Rattle.std.proofs.lemmas.List.{nil_from_length}
use Rattle.octets.specs.declared.Class.TheVariants.{Text}
use Rattle.octets.specs.Answers.{Answer, Read, Fault}
use Rattle.octets.specs.Classes.{has}
use Rattle.octets.specs.Fronts.{after, front, past}
use Rattle.octets.proofs.Fronts.{after-some}
use Rattle.octets.proofs.Options.{then_some, some_same}
use Rattle.lines.specs.Lines.{crlf, line_then, field_of}
use Rattle.lines.specs.Heads.{Taking, read_then, field_taken, field_then, head_then, head, Enough}

-- what follows a line is shorter
shorter : (s l t : List ℕ) → line_then s ≡ Some (l, t) → length t < length s
shorter s l t e =
    let h = then_some (after crlf (past (has Text) s)) (λ u. Some (front (has Text) s, u)) (l, t) e in
    let same : h.0 ≡ t = ap (λ p. p.1) (some_same (front (has Text) s, h.0) (l, t) h.2) in
    let cut : past (has Text) s ≡ crlf ++ h.0 = after-some crlf (past (has Text) s) h.0 h.1 in
    omega (arith, ap length same, ap length cut, length-drop (prefix_len (has Text) s) s)

pub then_same : {A B : Type 0} (a : Answer A) (g h : A → Answer B) → ((x : A) → g x ≡ h x) → read_then a g ≡ read_then a h
then_same (Fault n) g h e = refl
then_same (Read x) g h e = e x

module _ {F : Type 0} (taking : Taking F) where
  none : (k : ℕ) (names : List (List ℕ)) (f : F) (s : List ℕ) → length s ≤ 0 → head taking k names f s ≡ Fault 6
  unfolding head
  none zero names f s h = refl
  none (suc k) names f s h = let z : s ≡ [] = nil_from_length s (omega arith) in ap (λ x. head_then taking (head taking k) names f (line_then x)) z

  field_same : (g h : List (List ℕ) → F → Answer (F × List ℕ)) (names : List (List ℕ)) (f : F) (o : Option (List ℕ × List ℕ)) → ((ns : List (List ℕ)) (x : F) → g ns x ≡ h ns x) → field_then taking g names f o ≡ field_then taking h names f o
  field_same g h names f None e = refl
  field_same g h names f (Some p) e = then_same (field_taken taking names f p) (g (names ++ (p.0 ∷ []))) (h (names ++ (p.0 ∷ []))) (e (names ++ (p.0 ∷ [])))

  line_same : (g h : List (List ℕ) → F → List ℕ → Answer (F × List ℕ)) (names : List (List ℕ)) (f : F) (o : Option (List ℕ × List ℕ)) → ((l t : List ℕ) → o ≡ Some (l, t) → (ns : List (List ℕ)) (x : F) → g ns x t ≡ h ns x t) → head_then taking g names f o ≡ head_then taking h names f o
  line_same g h names f None e = refl
  line_same g h names f (Some p) e = ap (cond (eqb (length p.0) 0) (Read (f, p.1))) (field_same (λ ns x. g ns x p.1) (λ ns x. h ns x p.1) names f (field_of p.0) (e p.0 p.1 refl))

  same : (k m : ℕ) (names : List (List ℕ)) (f : F) (s : List ℕ) → length s ≤ k → length s ≤ m → head taking k names f s ≡ head taking m names f s
  unfolding head
  same zero m names f s h l = none zero names f s h ∙ sym (none m names f s h)
  same (suc k) zero names f s h l = none (suc k) names f s l ∙ sym (none zero names f s l)
  same (suc k) (suc m) names f s h l = line_same (head taking k) (head taking m) names f (line_then s) (λ a t e ns x. same k m ns x t (omega (arith, shorter s a t e)) (omega (arith, shorter s a t e)))

pub enough : {F : Type 0} → Enough F
enough taking k names f s h = same taking k (length s) names f s h (omega arith)
