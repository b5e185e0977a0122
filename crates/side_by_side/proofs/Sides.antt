-- Two runs after k events in which the group has let out the same.
use Rattle.std.proofs.Common.{◌≡◌, ℕ, suc, List, [], ◌∷◌, ◌++◌, sym, refl, ap, ◌∙◌, subst₂}
use Rattle.pages.specs.Sites.{Sites}
use Rattle.pages.specs.Outs.{Out, Group, let_out, keep_only, by_others}
use Rattle.pages.specs.Runs.{Run, iterate, trace, step, after, outs_now, request_now}
use Rattle.pages.specs.Promise.{Others, AlikeRuns, let_outs, to_others}
use Rattle.pages.proofs.Whole.{nothing_else}
use Rattle.runs.proofs.Moments.{iterate-end, trace-end, iterate-none, trace-none}
use Rattle.side_by_side.specs.Verdicts.{SoFar}

module _ {S R : Type 0} (p : Sites S R) (h : Group) where
  -- The same scripts and servers on both sides: what differs is in the servers' states.
  no_others : Others h p p
  no_others = record { sites = refl; act = λ s x t n. refl; next = λ s x t n. refl; begin = λ s d n. refl; serve = λ a x n. refl }

  -- One event in which the group lets out the same.
  pub record SameEvent (one two : Run S R) : Type 0 where
    pub runs : AlikeRuns h (step p one) (step p two)
    pub outs : keep_only (by_others h) (outs_now p one) ≡ keep_only (by_others h) (outs_now p two)
    pub requests : to_others h (request_now p one) ≡ to_others h (request_now p two)

  pub same_event : (one two : Run S R) → AlikeRuns h one two → let_out h (outs_now p one) ≡ let_out h (outs_now p two) → SameEvent one two
  unfolding iterate trace
  same_event one two a l =
      let lets : let_outs p h 1 one ≡ let_outs p h 1 two = ap {B = List (List Out)} (λ z. z ∷ []) l in
      let s = nothing_else S R h p p one two no_others a 1 lets in
      let os = s.same_outs in
      let qs = s.same_requests in
      record { runs = s.runs; outs = cc; requests = cc }

  -- Where the two runs are after k events.
  pub record Sides (x y : Run S R) (k : ℕ) (one two : Run S R) : Type 0 where
    pub at_one : one ≡ after p k x
    pub at_two : two ≡ after p k y
    pub lets : let_outs p h k x ≡ let_outs p h k y

  module _ (x y : Run S R) (start : AlikeRuns h x y) where
    pub sides_none : Sides x y 0 x y
    sides_none = record { at_one = sym (iterate-none (step p) x); at_two = sym (iterate-none (step p) y); lets = trace-none (step p) _ x ∙ sym (trace-none (step p) _ y) }

    pub so_far : (k : ℕ) (one two : Run S R) → Sides x y k one two → SoFar p h x y k
    so_far k one two s = record { lets = s.lets; others = nothing_else S R h p p x y no_others start k s.lets }

    pub alike_now : (k : ℕ) (one two : Run S R) → Sides x y k one two → AlikeRuns h one two
    alike_now k one two s = subst₂ (λ a b. AlikeRuns h a b) (sym s.at_one) (sym s.at_two) (nothing_else S R h p p x y no_others start k s.lets).runs

    pub sides_more : (k : ℕ) (one two one' two' : Run S R) → Sides x y k one two → one' ≡ step p one → two' ≡ step p two → let_out h (outs_now p one) ≡ let_out h (outs_now p two) → Sides x y (suc k) one' two'
    sides_more k one two one' two' s e f l =
        let see : Run S R → List Out = λ z. let_out h (outs_now p z) in
        let last : see (after p k x) ≡ see (after p k y) = ap see (sym s.at_one) ∙ l ∙ ap see s.at_two in
        record {
          at_one = e ∙ ap (step p) s.at_one ∙ sym (iterate-end (step p) k x);
          at_two = f ∙ ap (step p) s.at_two ∙ sym (iterate-end (step p) k y);
          lets = trace-end (step p) see k x ∙ ap {B = List (List Out)} (λ z. z ++ (see (after p k x) ∷ [])) s.lets ∙ ap {B = List (List Out)} (λ z. let_outs p h k y ++ (z ∷ [])) last ∙ sym (trace-end (step p) see k y);
        }
