-- A text cut line by line. Assumes nothing.
use Rattle.std.proofs.Common.{◌≡◌, ℕ, suc, ◌+◌, ◌<◌, cond, eqb, List, [], ◌∷◌, ◌++◌, length, drop, Some, None, Option, sym, refl, ap, ◌∙◌, ⊎_elim, one-add, arith, length-append}
use Rattle.std.specs.List.{prefix_len}
use Rattle.std.proofs.lemmas.List.{take-append-drop}
use Rattle.std.proofs.lemmas.Bool.{cond-true, cond-false, cases_Bool, eqb-true, eq-eqb, not-true, not-false}
use Rattle.octets.specs.declared.Class.TheVariants.{Line}
use Rattle.octets.specs.Classes.{has}
use Rattle.octets.specs.Fronts.{and_then, after, front, past}
use Rattle.octets.proofs.Fronts.{after-some, all-front}
use Rattle.octets.proofs.Options.{none-some, some_same, then_some}
use Rattle.settings.specs.Lines.{grown, lines, line_then, next_by}

-- a line that has its newline
pub lines-append : (l t : List ℕ) → prefix_len (has Line) l ≡ length l → lines (l ++ (10 ∷ t)) ≡ Some l ∷ lines t
lines-append [] t e = refl
lines-append (b ∷ l) t e =
    ⊎_elim
    (λ y. let e' : prefix_len (has Line) l ≡ length l = omega (arith, sym (cond-true (has Line b) (1 + prefix_len (has Line) l) 0 y) ∙ e) in
    cond-false _ _ _ (not-true (eqb b 10) y) ∙ ap (grown b) (lines-append l t e'))
    (λ n. let z : 0 ≡ suc (length l) = sym (cond-false (has Line b) (1 + prefix_len (has Line) l) 0 n) ∙ e in absurd (omega arith))
    (cases_Bool (has Line b))

-- the first line is cut off
pub line_some : (s l t : List ℕ) → line_then s ≡ Some (l, t) → (lines s ≡ Some l ∷ lines t) × (length t < length s)
line_some s l t e =
    let h = then_some (after (10 ∷ []) (past (has Line) s)) (λ r. Some (front (has Line) s, r)) (l, t) e in
    let same = some_same (front (has Line) s, h.0) (l, t) h.2 in
    let end : past (has Line) s ≡ 10 ∷ t = after-some (10 ∷ []) (past (has Line) s) h.0 h.1 ∙ ap (λ p. 10 ∷ p.1) same in
    let whole : front (has Line) s ++ past (has Line) s ≡ s = take-append-drop (prefix_len (has Line) s) s in
    let cut : s ≡ front (has Line) s ++ (10 ∷ t) = sym whole ∙ ap (λ r. front (has Line) s ++ r) end in (
      ap lines cut ∙ lines-append (front (has Line) s) t (all-front (has Line) (has Line) (λ b y. y) s) ∙ ap (λ p. Some p.0 ∷ lines t) same,
      omega (arith, ap length cut, length-append (front (has Line) s) (10 ∷ t)),
    )

-- what is left where there is no newline: nothing, or a line that can't be read
abbrev pub unended : List ℕ → List (Option (List ℕ))
unended [] = []
unended (b ∷ s) = None ∷ []

then-none : {A B : Type 0} (o : Option A) (f : A → B) → and_then o (λ x. Some (f x)) ≡ None → o ≡ None
then-none None f e = refl
then-none (Some x) f e = absurd (none-some (f x) (sym e))

grown_unended : (b : ℕ) (s : List ℕ) → grown b (unended s) ≡ None ∷ []
grown_unended b [] = refl
grown_unended b (d ∷ s) = refl

no_newline : (s : List ℕ) → after (10 ∷ []) (past (has Line) s) ≡ None → lines s ≡ unended s
no_newline [] e = refl
no_newline (b ∷ s) e =
    ⊎_elim
    (λ y. let n : prefix_len (has Line) (b ∷ s) ≡ suc (prefix_len (has Line) s) = cond-true _ (1 + prefix_len (has Line) s) 0 y ∙ one-add _ in
    let e' : after (10 ∷ []) (past (has Line) s) ≡ None = sym (λ i. after (10 ∷ []) (drop (n i) (b ∷ s))) ∙ e in
    cond-false _ _ _ (not-true (eqb b 10) y) ∙ ap (grown b) (no_newline s e') ∙ grown_unended b s)
    (λ y. let n : prefix_len (has Line) (b ∷ s) ≡ 0 = cond-false _ (1 + prefix_len (has Line) s) 0 y in
    let newline : b ≡ 10 = eqb-true b 10 (not-false (eqb b 10) y) in
    let e' : cond (eqb 10 b) (Some s) None ≡ None = sym (λ i. after (10 ∷ []) (drop (n i) (b ∷ s))) ∙ e in
    absurd (none-some s (sym e' ∙ cond-true (eqb 10 b) (Some s) None (eq-eqb 10 b (sym newline)))))
    (cases_Bool (has Line b))

pub line_none : (s : List ℕ) → line_then s ≡ None → lines s ≡ unended s
line_none s e = no_newline s (then-none (after (10 ∷ []) (past (has Line) s)) (λ t. (front (has Line) s, t)) e)

-- what a reader of lines finds in the first line
module _ {A : Type 0} (read : List ℕ → Option A) where
  pub next-some : (s t : List ℕ) (x : A) → next_by read s ≡ Some (x, t) → (l : List ℕ) × (lines s ≡ Some l ∷ lines t) × (read l ≡ Some x) × (length t < length s)
  next-some s t x e =
      let h = then_some (line_then s) (λ p. and_then (read p.0) (λ y. Some (y, p.1))) (x, t) e in
      let p = h.0 in
      let k = then_some (read p.0) (λ y. Some (y, p.1)) (x, t) h.2 in
      let same = some_same (k.0, p.1) (x, t) k.2 in
      let c = line_some s p.0 p.1 h.1 in
      (p.0, c.0 ∙ ap (λ q. Some p.0 ∷ lines q.1) same, k.1 ∙ ap (λ q. Some q.0) same, omega (arith, c.1, ap (λ q. length q.1) same))

  pub next-shorter : (s t : List ℕ) (x : A) → Some (x, t) ≡ next_by read s → length t < length s
  next-shorter s t x e = (next-some s t x (sym e)).3

  -- a first line that it can't read
  pub next-none : (s : List ℕ) → 0 < length s → next_by read s ≡ None → (l : Option (List ℕ)) × (ls : List (Option (List ℕ))) × (lines s ≡ l ∷ ls) × (and_then l read ≡ None)
  next-none [] h e = absurd (omega arith)
  next-none (b ∷ s) h e = go (line_then (b ∷ s)) refl
    where
      go : (o : Option (List ℕ × List ℕ)) → line_then (b ∷ s) ≡ o → (l : Option (List ℕ)) × (ls : List (Option (List ℕ))) × (lines (b ∷ s) ≡ l ∷ ls) × (and_then l read ≡ None)
      go None k = (None, [], line_none (b ∷ s) k, refl)
      go (Some p) k = (
        Some p.0,
        lines p.1,
        (line_some (b ∷ s) p.0 p.1 k).0,
        then-none (read p.0) (λ y. (y, p.1)) (sym (ap (λ o. and_then o (λ q. and_then (read q.0) (λ y. Some (y, q.1)))) k) ∙ e),
      )
