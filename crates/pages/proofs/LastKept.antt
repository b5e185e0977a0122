-- What a site keeps is what its windows kept last.
use Rattle.std.proofs.Common.{◌≡◌, ℕ, zero, suc, Bool, true, false, cond, eqb, List, ◌∷◌, Some, None, Option, sym, refl, ap, ◌∙◌, subst, ne_eqb, eqb-true}
use borrow.Author.Tests.{eqb-false}
use Rattle.pages.specs.Sites.{Bytes, Act, Idle, Asks, Says, Keeps, Looks, Opens, Request, Reply, Sites}
use Rattle.pages.specs.Browser.{Window, Part, World, at, nth, act_of, acted, page_needed, replied_to, begun_by, begun, needs, exchanged, happens, Event, Opening, TurnOf}
use Rattle.pages.specs.Runs.{iterate, trace, Due, Run, due_now, event_by, step_by, step}
use Rattle.pages.specs.Laws.{kept_act, kept_of, kept_on, kept_now, latest, KeptLast}
use Rattle.pages.proofs.Places.{at_here, at_there}
use Rattle.pages.proofs.Invariants.{whose, exchanged-keeps}

abbrev or_else : {A : Type 0} → Option A → A → A
or_else None y = y
or_else (Some x) y = x

latest_first : {A : Type 0} (o : Option A) (os : List (Option A)) (x : A) → latest os (or_else o x) ≡ latest (o ∷ os) x
unfolding latest
latest_first None os x = refl
latest_first (Some y) os x = refl

module _ {S R : Type 0} (p : Sites S R) (v : ℕ) where
  -- a reply leaves all stores
  replied_kept : (i : ℕ) (o : Option ℕ) (a : Request) (r : Reply) (b : Part S) → (replied_to p.scripts i o a r b).kept v ≡ b.kept v
  replied_kept i None a r b = refl
  replied_kept i (Some s) a r b = refl

  exchanged-kept : (e : Event) (q : Option Request) (b : Part S) (r : ℕ → R) → (exchanged p e q b r).part.kept v ≡ b.kept v
  exchanged-kept e q b r = exchanged-keeps (λ c. c.kept v ≡ b.kept v) p e q b r refl (λ i a m z. replied_kept i (whose e a) a m b)

  keeps-kept : (s : ℕ) (d : Bytes) (k : ℕ → Bytes) (z : Bool) → eqb s v ≡ z → at s d k v ≡ or_else (cond z (Some d) None) (k v)
  keeps-kept s d k true e = subst (λ t. at s d k t ≡ d) (eqb-true s v e) (at_here s d k)
  keeps-kept s d k false e = at_there s d k v (ne_eqb v s (λ c. eqb-false s v e (sym c)))

  none_kept : (z : Bool) (k : Bytes) → k ≡ or_else (cond z None None) k
  none_kept true k = refl
  none_kept false k = refl

  acted-kept : (i s : ℕ) (a : Act) (b : Part S) → (acted i s a b).kept v ≡ or_else (cond (eqb s v) (kept_act a) None) (b.kept v)
  acted-kept i s Idle b = none_kept (eqb s v) _
  acted-kept i s (Asks t h d) b = none_kept (eqb s v) _
  acted-kept i s (Says j t d) b = none_kept (eqb s v) _
  acted-kept i s (Keeps d) b = keeps-kept s d b.kept (eqb s v) refl
  acted-kept i s Looks b = none_kept (eqb s v) _
  acted-kept i s (Opens t h) b = none_kept (eqb s v) _

  begun_kept : (i : ℕ) (f : Option (Window S)) (b : Part S) → (begun_by p.scripts i f b).kept v ≡ or_else (kept_of p v f) (b.kept v)
  begun_kept i None b = refl
  begun_kept i (Some x) b = acted-kept i x.site (act_of p.scripts x) _

  happens-kept : (e : Event) (w : World S R) → (happens p e w).part.kept v ≡ or_else (kept_on p v w (Some e)) (w.part.kept v)
  happens-kept (Opening t h) w = exchanged-kept (Opening t h) (page_needed t h w.part) w.part w.servers
  happens-kept (TurnOf i) w = exchanged-kept (TurnOf i) (needs p.scripts (TurnOf i) w.part) (begun p.scripts (TurnOf i) w.part) w.servers ∙ begun_kept i (nth i w.part.windows) w.part

  step_kept : (x : Run S R) (d : Option Due) → (step_by p x d).world.part.kept v ≡ or_else (kept_on p v x.world (event_by d)) (x.world.part.kept v)
  step_kept x None = refl
  step_kept x (Some d) = happens-kept d.event x.world

module _ (S R : Type 0) where
  pub kept_last : KeptLast S R
  unfolding iterate trace latest
  kept_last p v zero x = refl
  kept_last p v (suc n) x =
      kept_last p v n (step p x)
      ∙ ap (latest (trace (step p) (kept_now p v) n (step p x))) (step_kept p v x (due_now x))
      ∙ latest_first (kept_now p v x) (trace (step p) (kept_now p v) n (step p x)) (x.world.part.kept v)
