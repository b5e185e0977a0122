-- The promise over whole runs, from steps.
use Rattle.std.proofs.Common.{◌≡◌, ℕ, zero, suc, Bool, true, false, cond, [], length, Some, None, Option, sym, refl, ap, ◌∙◌, subst, ne_eqb}
use borrow.Author.Tests.{eqb-false}
use Rattle.pages.specs.Sites.{Act, Idle, Asks, Says, Keeps, Looks, Opens, Unreadable, Served, Sites}
use Rattle.pages.specs.Browser.{Window, World, nth, act_of, Event, Opening, TurnOf}
use Rattle.pages.specs.Outs.{outs_of, let_by, Group, by_others, keep_only, let_out}
use Rattle.pages.specs.Runs.{Run, Settings, Due, iterate, trace, due, due_now, step_by, step, event_by, event_now, outs_on, outs_now, request_on, request_now, begin}
use Rattle.pages.specs.Views.{View, of_site}
use Rattle.pages.specs.Promise.{Others, AlikeRuns, to_others, let_outs, SameForOthers, silenced, nothings, only, NothingElse, FromSettings, AsIfNot, OneSite}
use Rattle.pages.proofs.Same.{same_length}
use Rattle.pages.proofs.Close.{alike_close, close_alike}
use Rattle.pages.proofs.Shown.{visible, own-lets, given, other_lets}
use Rattle.pages.proofs.Acts.{reply_done}
use Rattle.pages.proofs.Steps.{event_same}

module _ {S R : Type 0} {h : Group} {p q : Sites S R} (o : Others h p q) where
  -- ONE STEP: the same is due in both, and what comes of it is the same for others
  pub record SameStep (x y : Run S R) : Type 0 where
    pub runs : AlikeRuns h (step p x) (step q y)
    pub event : event_now x ≡ event_now y
    pub outs : keep_only (by_others h) (outs_now p x) ≡ keep_only (by_others h) (outs_now q y)
    pub request : to_others h (request_now p x) ≡ to_others h (request_now q y)

  same_due : (x y : Run S R) → AlikeRuns h x y → due_now x ≡ due_now y
  same_due x y r =
      ap (λ n. due n x.agenda) (same_length (close_alike r.world).windows) ∙ ap (due (length y.world.part.windows)) r.agenda

  step_by_lem : (x y : Run S R) (d e : Option Due) → due_now x ≡ d → due_now y ≡ d → AlikeRuns h x y → let_out h (outs_on p x.world (event_by d)) ≡ let_out h (outs_on q y.world (event_by d)) →
      AlikeRuns h (step_by p x d) (step_by q y d) × (keep_only (by_others h) (outs_on p x.world (event_by d)) ≡ keep_only (by_others h) (outs_on q y.world (event_by d))) × (to_others h (request_on p x.world (event_by d)) ≡ to_others h (request_on q y.world (event_by d)))
  step_by_lem x y None e f g r l = (r, refl, refl)
  step_by_lem x y (Some d) e f g r l =
      let s = event_same o (close_alike r.world) d.event l in
      (record { agenda = refl; world = alike_close s.worlds }, s.outs, s.requests)

  one-step : (x y : Run S R) → AlikeRuns h x y → let_out h (outs_now p x) ≡ let_out h (outs_now q y) → SameStep x y
  one-step x y r l =
      let d : Option Due = due_now x in
      let e : due_now y ≡ d = sym (same_due x y r) in
      let lets : let_out h (outs_on p x.world (event_by d)) ≡ let_out h (outs_on q y.world (event_by d)) = l ∙ ap (λ z. let_out h (outs_on q y.world (event_by z))) e in
      let s = step_by_lem x y d d refl e r lets in
      record {
        runs = subst (λ z. AlikeRuns h (step p x) (step_by q y z)) (sym e) s.0;
        event = ap event_by (sym e);
        outs = s.1 ∙ ap (λ z. keep_only (by_others h) (outs_on q y.world (event_by z))) (sym e);
        request = s.2 ∙ ap (λ z. to_others h (request_on q y.world (event_by z))) (sym e);
      }

  pub same_runs : (n : ℕ) (x y : Run S R) → AlikeRuns h x y → let_outs p h n x ≡ let_outs q h n y → SameForOthers h p q x y n
  unfolding iterate trace
  same_runs zero x y r l = record { runs = r; same_events = refl; same_outs = refl; same_requests = refl }
  same_runs (suc n) x y r l =
      let now : let_out h (outs_now p x) ≡ let_out h (outs_now q y) = cc in
      let later : let_outs p h n (step p x) ≡ let_outs q h n (step q y) = cc in
      let s = one-step x y r now in
      let t = same_runs n (step p x) (step q y) s.runs later in
      let e = s.event in
      let e' = t.same_events in
      let f = s.outs in
      let f' = t.same_outs in
      let g = s.request in
      let g' = t.same_requests in
      record { runs = t.runs; same_events = cc; same_outs = cc; same_requests = cc }

begin-alike : {S R : Type 0} (h : Group) (g : Settings) (r r' : ℕ → R) → ((s : ℕ) → h s ≡ false → r s ≡ r' s) → AlikeRuns {S = S} h (begin g r) (begin g r')
unfolding of_site
begin-alike {S} {R} h g r r' e =
    record { agenda = refl; world = record { public = refl; views = λ s n. ap {B = View S R} (λ z. record { windows = []; token = None; kept = []; server = z }) (e s n) } }

module _ {S R : Type 0} (h : Group) (p : Sites S R) where
  silent-others : Others h p (silenced h p)
  silent-others =
      record {
        sites = refl;
        act = λ s x t n. rw n;
        next = λ s x t n. refl;
        begin = λ s d n. refl;
        serve = λ a x n. rw n;
      }

  -- the silenced group lets nothing out
  silent_turn : (w : World S R) (f : Option (Window S)) → let_out h (outs_of (silenced h p) f w) ≡ []
  unfolding keep_only
  silent_turn w None = refl
  silent_turn w (Some x) = go (h x.site) refl
    where
      barred : (t : ℕ) (b : Bool) (z : Served R) (r : R) → cond b (let_by t x.site (cond b (record { reply = Unreadable; state = r }) z).reply) [] ≡ []
      barred t true z r = refl
      barred t false z r = refl

      others : (n : h x.site ≡ false) (a : Act) → given h w.part.windows x.site n a (reply_done (silenced h p) x.site a w) ≡ []
      others n Idle = refl
      others n (Asks t l d) = barred t (h t) _ _
      others n (Says j t d) = refl
      others n (Keeps d) = refl
      others n Looks = refl
      others n (Opens t l) = refl

      go : (b : Bool) → h x.site ≡ b → let_out h (outs_of (silenced h p) (Some x) w) ≡ []
      go true m =
          let idle : act_of (silenced h p).scripts x ≡ Idle = rw m in
          own-lets h w.part.windows x.site m (act_of (silenced h p).scripts x) (reply_done (silenced h p) x.site (act_of (silenced h p).scripts x) w) ∙ ap (visible h w.part.windows x.site) idle
      go false m =
          let a : Act = act_of (silenced h p).scripts x in
          other_lets h w.part.windows x.site m a (reply_done (silenced h p) x.site a w) ∙ others m a

  silent-event : (w : World S R) (e : Option Event) → let_out h (outs_on (silenced h p) w e) ≡ []
  unfolding keep_only
  silent-event w None = refl
  silent-event w (Some (Opening t l)) = refl
  silent-event w (Some (TurnOf i)) = silent_turn w (nth i w.part.windows)

  silent_run : (n : ℕ) (x : Run S R) → let_outs (silenced h p) h n x ≡ nothings n
  unfolding trace nothings
  silent_run zero x = refl
  silent_run (suc n) x =
      let now : let_out h (outs_now (silenced h p) x) ≡ [] = silent-event x.world (event_now x) in
      let later = silent_run n (step (silenced h p) x) in
      cc

module _ (S R : Type 0) where
  pub nothing_else : NothingElse S R
  nothing_else h p q x y o r n l = same_runs o n x y r l

  pub from_settings : FromSettings S R
  from_settings h p q g r r' o e n l = same_runs o n (begin g r) (begin g r') (begin-alike h g r r' e) l

  pub as_if_not : AsIfNot S R
  as_if_not h p g r n l = from_settings h p (silenced h p) g r r (silent-others h p) (λ s m. refl) n (l ∙ sym (silent_run h p n (begin g r)))

  pub one-site : OneSite S R
  one-site v p q g r r' o e n l s m =
      (from_settings (only v) p q g r r' o (λ t c. e t (eqb-false t v c)) n l).runs.world.views s (ne_eqb s v m)
