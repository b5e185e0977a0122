-- What every field keeps is kept by all fields.
use Rattle.std.proofs.Common.{◌≡◌, ℕ, zero, suc, Bool, true, false, cond, eqb, List, [], ◌∷◌, ◌++◌, length, Some, None, Option, refl, ap, ◌∙◌, subst, arith}
use Rattle.octets.specs.Answers.{Answer, Read, Fault}
use Rattle.lines.specs.Lines.{line_then, field_of, among}
use Rattle.lines.specs.Heads.{read_then, Taking, field_taken, field_then, head_then, head, fields}

pub refused : {A : Type 0} (n : ℕ) (x : A) → Fault n ≡ Read x → ⊥
refused n x e = let z : ◌≡◌ {A = ℕ} 0 1 = cc in omega arith

pub same_read : {A : Type 0} (x y : A) → Read x ≡ Read y → x ≡ y
same_read x y e = cc

module _ {F : Type 0} (taking : Taking F) (P : F → Type 0) (keeps : (f g : F) (name v : List ℕ) → P f → taking f name v ≡ Read g → P g) where
  taken-keeps : (names : List (List ℕ)) (f g : F) (q : List ℕ × List ℕ) → P f → field_taken taking names f q ≡ Read g → P g
  taken-keeps names f g q h e = go (taking f q.0 q.1) refl e
    where
      by : (b : Bool) (x : F) → cond b (Fault 7) (Read x) ≡ Read g → x ≡ g
      by true x d = absurd (refused 7 g d)
      by false x d = same_read x g d

      go : (r : Answer F) → taking f q.0 q.1 ≡ r → read_then r (λ x. cond (among q.0 names) (Fault 7) (Read x)) ≡ Read g → P g
      go (Fault n) d c = absurd (refused n g c)
      go (Read x) d c = keeps f g q.0 q.1 h (d ∙ ap {B = Answer F} Read (by (among q.0 names) x c))

  pub head-keeps : (k : ℕ) (names : List (List ℕ)) (f g : F) (s rest : List ℕ) → P f → head taking k names f s ≡ Read (g, rest) → P g
  unfolding head
  head-keeps zero names f g s rest h e = absurd (refused 6 (g, rest) e)
  head-keeps (suc k) names f g s rest h e = by_line (λ ns x t m d. head-keeps k ns x g t rest m d) (line_then s) e
    where
      by_taken : ((ns : List (List ℕ)) (x : F) (t : List ℕ) → P x → head taking k ns x t ≡ Read (g, rest) → P g) → (t : List ℕ) (ns : List (List ℕ)) (r : Answer F) → ((x : F) → r ≡ Read x → P x) → read_then r (λ x. head taking k ns x t) ≡ Read (g, rest) → P g
      by_taken again t ns (Fault n) m d = absurd (refused n (g, rest) d)
      by_taken again t ns (Read x) m d = again ns x t (m x refl) d

      by_field : ((ns : List (List ℕ)) (x : F) (t : List ℕ) → P x → head taking k ns x t ≡ Read (g, rest) → P g) → (t : List ℕ) (o : Option (List ℕ × List ℕ)) → field_then taking (λ ns x. head taking k ns x t) names f o ≡ Read (g, rest) → P g
      by_field again t None d = absurd (refused 6 (g, rest) d)
      by_field again t (Some q) d = by_taken again t (names ++ (q.0 ∷ [])) (field_taken taking names f q) (λ x c. taken-keeps names f x q h c) d

      by_test : ((ns : List (List ℕ)) (x : F) (t : List ℕ) → P x → head taking k ns x t ≡ Read (g, rest) → P g) → (p : List ℕ × List ℕ) (b : Bool) → cond b (Read (f, p.1)) (field_then taking (λ ns x. head taking k ns x p.1) names f (field_of p.0)) ≡ Read (g, rest) → P g
      by_test again p true d = let same : f ≡ g = ap {A = F × List ℕ} (λ z. z.0) (same_read (f, p.1) (g, rest) d) in subst P same h
      by_test again p false d = by_field again p.1 (field_of p.0) d

      by_line : ((ns : List (List ℕ)) (x : F) (t : List ℕ) → P x → head taking k ns x t ≡ Read (g, rest) → P g) → (o : Option (List ℕ × List ℕ)) → head_then taking (head taking k) names f o ≡ Read (g, rest) → P g
      by_line again None d = absurd (refused 6 (g, rest) d)
      by_line again (Some p) d = by_test again p (eqb (length p.0) 0) d

  pub fields_keep : (f g : F) (s rest : List ℕ) → P f → fields taking f s ≡ Read (g, rest) → P g
  fields_keep f g s rest h e = head-keeps (length s) [] f g s rest h e
