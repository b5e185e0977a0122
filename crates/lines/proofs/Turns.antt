-- One line of the fields after another. Assumes nothing.
use Rattle.std.proofs.Common.{◌≡◌, ℕ, suc, ◌+◌, ◌-◌, ◌<◌, ◌≤◌, Bool, true, false, cond, eqb, List, [], ◌∷◌, ◌++◌, length, Some, None, codes, Option, sym, ap, ◌∙◌, append_assoc, arith}
use Rattle.std.proofs.lemmas.Bool.{cond-true, cond-false}
use Rattle.octets.specs.declared.Class.TheVariants.{Token}
use Rattle.octets.specs.Classes.{has}
use Rattle.octets.specs.Fronts.{and_then, after, front, past}
use Rattle.lines.specs.Lines.{line_then, trim, field_of, names_from, names_of}
use Rattle.octets.specs.Answers.{Answer, Read, Fault}
use Rattle.lines.specs.Heads.{Taking, read_then, field_taken, field_then, head_then, head}

-- a turn of the loop with n lines at most, after k of them
module _ {F : Type 0} (taking : Taking F) (n k : ℕ) (names : List (List ℕ)) (f : F) (s : List ℕ) where
  pub head-end : n ≤ k → head taking (n - k) names f s ≡ Fault 6
  unfolding head
  head-end h = let e : n - k ≡ 0 = omega arith in ap (λ m. head taking m names f s) e

  pub head_turn : (o : Option (List ℕ × List ℕ)) → k < n → o ≡ line_then s → head taking (n - k) names f s ≡ head_then taking (head taking (n - (k + 1))) names f o
  unfolding head
  head_turn o h q = let e : n - k ≡ suc (n - (k + 1)) = omega arith in ap (λ m. head taking m names f s) e ∙ sym (ap (head_then taking (head taking (n - (k + 1))) names f) q)

  pub head_done : (l t : List ℕ) → k < n → Some (l, t) ≡ line_then s → true ≡ eqb (length l) 0 → head taking (n - k) names f s ≡ Read (f, t)
  head_done l t h q e = head_turn (Some (l, t)) h q ∙ cond-true (eqb (length l) 0) _ _ (sym e)

  pub head_field : (l t : List ℕ) (o : Option (List ℕ × List ℕ)) → k < n → Some (l, t) ≡ line_then s → false ≡ eqb (length l) 0 → o ≡ field_of l → head taking (n - k) names f s ≡ field_then taking (λ ns g. head taking (n - (k + 1)) ns g t) names f o
  head_field l t o h q e r = head_turn (Some (l, t)) h q ∙ cond-false (eqb (length l) 0) _ _ (sym e) ∙ sym (ap (field_then taking (λ ns g. head taking (n - (k + 1)) ns g t) names f) r)

  pub head_more : (l t name v : List ℕ) (a : Answer F) → k < n → Some (l, t) ≡ line_then s → false ≡ eqb (length l) 0 → Some (name, v) ≡ field_of l → a ≡ field_taken taking names f (name, v) → head taking (n - k) names f s ≡ read_then a (λ g. head taking (n - (k + 1)) (names ++ (name ∷ [])) g t)
  head_more l t name v a h q e r p = head_field l t (Some (name, v)) h q e r ∙ sym (ap (λ o. read_then o (λ g. head taking (n - (k + 1)) (names ++ (name ∷ [])) g t)) p)

-- before the first line
pub start : {F : Type 0} (taking : Taking F) (f : F) (s : List ℕ) → head taking (length s) [] f s ≡ head taking (length s - 0) (names_of 0 s) f s
unfolding names_of
start taking f s = let e : length s ≡ length s - 0 = omega arith in ap (λ n. head taking n [] f s) e

-- the name of a field is the front of its line
field_name : (l name v : List ℕ) → ◌≡◌ {A = Option (List ℕ × List ℕ)} (Some (name, v)) (field_of l) → name ≡ front (has Token) l
field_name l name v e = go (eqb (length (front (has Token) l)) 0) (after (codes ":") (past (has Token) l)) e
  where
    go : (b : Bool) (o : Option (List ℕ)) → ◌≡◌ {A = Option (List ℕ × List ℕ)} (Some (name, v)) (cond b None (and_then o (λ w. Some (front (has Token) l, trim w)))) → name ≡ front (has Token) l
    go true o q = let z : ◌≡◌ {A = ℕ} 0 1 = cc in absurd (omega arith)
    go false None q = let z : ◌≡◌ {A = ℕ} 0 1 = cc in absurd (omega arith)
    go false (Some w) q = let p : ◌≡◌ {A = List ℕ × List ℕ} (name, v) (front (has Token) l, trim w) = cc in ap (λ x. x.0) p

-- the names of k lines, and of those after them in rest
abbrev pub Named : ℕ → List ℕ → List ℕ → Type 0
Named k s rest = (m : ℕ) → names_of (k + m) s ≡ names_of k s ++ names_of m rest

pub named_none : (s : List ℕ) → Named 0 s s
unfolding names_of
named_none s m = let e : 0 + m ≡ m = omega arith in ap (λ n. names_of n s) e

module _ (k : ℕ) (s rest l t name v : List ℕ) (so : Named k s rest) (q : Some (l, t) ≡ line_then rest) (r : Some (name, v) ≡ field_of l) where
  one_more : (m : ℕ) → names_of (suc m) rest ≡ name ∷ names_of m t
  unfolding names_of
  one_more m = sym (ap (names_from (names_of m)) q) ∙ sym (ap (λ x. x ∷ names_of m t) (field_name l name v r))

  pub names_push : names_of (k + 1) s ≡ names_of k s ++ (name ∷ [])
  unfolding names_of
  names_push = so 1 ∙ ap (λ x. names_of k s ++ x) (one_more 0)

  pub named_push : Named (k + 1) s t
  named_push m =
      let e : k + 1 + m ≡ k + suc m = omega arith in
      ap (λ n. names_of n s) e ∙ so (suc m) ∙ ap (λ x. names_of k s ++ x) (one_more m)
      ∙ sym (ap (λ x. x ++ names_of m t) names_push ∙ append_assoc (names_of k s) (name ∷ []) (names_of m t))
