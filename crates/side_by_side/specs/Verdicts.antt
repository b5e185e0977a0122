-- What a verdict on two runs says.
use Rattle.std.specs.Prelude.{◌≡◌, ℕ, min, None, ◌≢◌}
use Rattle.pages.specs.Sites.{Sites}
use Rattle.pages.specs.Outs.{Group, let_out}
use Rattle.pages.specs.Runs.{Run, after, event_now, outs_now}
use Rattle.pages.specs.Views.{Alike}
use Rattle.pages.specs.Promise.{let_outs, SameForOthers}
use Rattle.side_by_side.specs.declared.verdict.Verdict.{Verdict}
use Rattle.side_by_side.specs.declared.verdict.Verdict.TheVariants as by

-- A count of events, as far as 64 bits go.
abbrev pub counted : ℕ → ℕ
counted k = min k 18446744073709551615

module _ {S R : Type 0} (p : Sites S R) (h : Group) (x y : Run S R) where
  -- After k events the group has let out the same in each, and everything of all others was the same in each and is the same now.
  pub record SoFar (k : ℕ) : Type 0 where
    pub lets : let_outs p h k x ≡ let_outs p h k y
    pub others : SameForOthers h p p x y k

  -- They did not begin alike; or they were the same to the end; or up to the event in which the group let out something different; and there is never a leak.
  abbrev pub Truly : Verdict → Type 0
  Truly by.Apart = Alike h x.world y.world → ⊥
  Truly (by.Same n) = (k : ℕ) × (n ≡ counted k) × SoFar k × (event_now (after p k x) ≡ None)
  Truly (by.LetOut n) = (k : ℕ) × (n ≡ counted k) × SoFar k × (let_out h (outs_now p (after p k x)) ≢ let_out h (outs_now p (after p k y)))
  Truly (by.Leak n place) = ⊥
