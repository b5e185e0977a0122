-- What each site has, compared site by site.
use Rattle.std.proofs.Common.{◌≡◌, ℕ, ◌<◌, ◌≤◌, Bool, true, false, get_or, Decides, sym, refl, subst, ⊎_elim, true≢false, arith}
use Rattle.std.specs.Bool.{MatchBool}
use Rattle.std.specs.List.{AllWithin, HoldsAt, range_with_len}
use Rattle.std.proofs.lemmas.List.FromFn.{get_or-range_with_len}
use Rattle.std.proofs.lemmas.Bool.{cases_lt}
use Rattle.pages.specs.Outs.{Group}
use Rattle.compare.specs.Alike.{AlikeAt}

-- every site outside the group that has a number below n has the same, and beyond 16 all do once one was compared
module _ {V : Type 0} (h : Group) (f g : ℕ → V) where
  abbrev pub Beyond : Type 0
  Beyond = (s : ℕ) → 16 ≤ s → f s ≡ g s

  abbrev pub SoFar : ℕ → Type 0
  SoFar n = ((s : ℕ) → s < n → h s ≡ false → f s ≡ g s) × (0 < n → Beyond)

  -- of one site, and of what is beyond
  abbrev pub Same : ℕ → Type 0
  Same s = (h s ≡ false → f s ≡ g s) × Beyond

  abbrev pub Other : ℕ → Type 0
  Other s = (h s ≡ false → f s ≡ g s) → ⊥

  nth_number : (k : ℕ) → k < 16 → get_or (range_with_len 0 16) k 0 ≡ k
  nth_number k l = let e = get_or-range_with_len 0 16 k 0 l in omega (arith, e)

  pub all_alike : (r : Bool) → MatchBool r (AllWithin Same (range_with_len 0 16) 0 16) ((k : ℕ) × (k < 16) × HoldsAt Other (range_with_len 0 16) k) → Decides r (AlikeAt h f g)
  all_alike true a = (
    λ e s o. ⊎_elim
        (λ (k : s < 16). (subst Same (nth_number s k) (a s 0 (omega arith) k)).0 o)
        (λ (k : 16 ≤ s). (a 0 0 (omega arith) (omega arith)).1 s k)
        (cases_lt s 16),
    λ x. refl,
  )
  all_alike false d = (λ e. absurd (true≢false (sym e)), λ x. absurd (subst Other (nth_number d.0 d.1) (d.2 0) (x d.0)))
