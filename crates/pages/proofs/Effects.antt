-- What is of a site after an event follows from what was of it and from what the event does to it.
use Rattle.std.proofs.Common.{◌≡◌, ℕ, zero, suc, Bool, true, false, cond, eqb, ltb, List, [], ◌∷◌, ◌++◌, length, Some, None, Option, sym, refl, ap, ◌∙◌, subst, ap₂, append-nil, ltb-true, eq-eqb, ne_eqb, eqb-true}
use borrow.Author.Tests.{eqb-false}
use Rattle.pages.specs.Sites.{Bytes, Act, Idle, Asks, Says, Keeps, Looks, Opens, Told, Kept, Request, Sites}
use Rattle.pages.specs.Browser.{Word, Window, World, most_windows, at, nth, change, act_of, stepped, owns, hears, fresh, answered, token_after, page_needed, needs_of, begun_by, exchanged, happens, Event, Opening, TurnOf}
use Rattle.pages.specs.Outs.{is_of}
use Rattle.pages.specs.Runs.{Run, Due, iterate, trace, due_now, event_by, step_by, step}
use Rattle.pages.specs.Views.{View, view_of, of_site, Effect, Runs, Learns, Finds, Hears, Stores, Serves, Begins, change_at, only_for, opening, with_own, with_served, takes, takes_all, effects_by, effects_of, effects_on, effects_now, concat}
use Rattle.pages.specs.Laws.{asking, fetching, running, ViewLaw, HistoryLaw, Foreign, nothing, asks, says, opens, TouchedOnly}
use Rattle.pages.proofs.Places.{nth-change, is_of-change, change-length, at_there, Sited, sited_this, hears-site}
use Rattle.pages.proofs.Turns.{showing, replied, after_run, does, turn_is}
use Rattle.pages.proofs.Numbered.{KeepsSite, of_site-at, of_site-join, of_site-own, of_site-unheard}

at_this : {A : Type 0} (t v : ℕ) (a : A) (f : ℕ → A) → t ≡ v → at t a f v ≡ a
at_this t v a f e = rw (eq-eqb v t (sym e))

at_other : {A : Type 0} (t v : ℕ) (a : A) (f : ℕ → A) → eqb t v ≡ false → at t a f v ≡ f v
at_other t v a f n = at_there t a f v (ne_eqb v t (λ e. eqb-false t v n (sym e)))

module _ {S R : Type 0} where
  takes_all-join : (p : Sites S R) (v : ℕ) (es fs : List Effect) (x : View S R) → takes_all p v (es ++ fs) x ≡ takes_all p v fs (takes_all p v es x)
  unfolding takes_all
  takes_all-join p v [] fs x = refl
  takes_all-join p v (e ∷ es) fs x = takes_all-join p v es fs (takes p v e x)

  -- what is of a site, where it has these windows
  showing_view : (v : ℕ) (w : World S R) (xs : List (Window S)) (ys : List (ℕ × Window S)) → of_site v 0 xs ≡ ys → view_of v (showing xs w) ≡ with_own ys (view_of v w)
  showing_view v w xs ys e = ap (λ zs. with_own zs (view_of v w)) e

  -- THE WINDOWS ALONE ARE CHANGED: one of site s, which is an effect for s
  own-effect :
      (p : Sites S R) (v i s : ℕ) (f : Window S → Window S) (e : Effect) (w : World S R) → KeepsSite f → Sited i s w.part.windows →
      (s ≡ v → takes p v e (view_of v w) ≡ with_own (change_at i f (of_site v 0 w.part.windows)) (view_of v w)) →
      view_of v (showing (change i f w.part.windows) w) ≡ takes_all p v (only_for v s (e ∷ [])) (view_of v w)
  unfolding takes_all
  own-effect p v i s f e w k h t = go (eqb s v) refl
    where
      go : (b : Bool) → eqb s v ≡ b → view_of v (showing (change i f w.part.windows) w) ≡ takes_all p v (cond b (e ∷ []) []) (view_of v w)
      go true d = showing_view v w _ _ (of_site-own v i s f w.part.windows k h true d) ∙ sym (t (eqb-true s v d))
      go false d = showing_view v w _ _ (of_site-own v i s f w.part.windows k h false d)

  -- a word is said to window j, if it is of site t
  word-effect :
      (p : Sites S R) (v j t : ℕ) (m : Word) (w : World S R) →
      view_of v (showing (change j (hears t m) w.part.windows) w) ≡ takes_all p v (only_for v t (cond (is_of t (nth j w.part.windows)) (Hears j m.from m.what ∷ []) [])) (view_of v w)
  unfolding takes_all
  word-effect p v j t m w = go (eqb t v) (is_of t (nth j w.part.windows)) refl refl
    where
      go :
          (b c : Bool) → eqb t v ≡ b → is_of t (nth j w.part.windows) ≡ c →
          view_of v (showing (change j (hears t m) w.part.windows) w) ≡ takes_all p v (cond b (cond c (Hears j m.from m.what ∷ []) []) []) (view_of v w)
      go true true e o =
          showing_view v w _ _ (of_site-at v j (hears t m) w.part.windows (hears-site t m) ∙ ap (λ z. change_at j (hears z m) (of_site v 0 w.part.windows)) (eqb-true t v e))
      go true false e o = showing_view v w _ _ (of_site-unheard v j t m w.part.windows (λ x at_x h. ap (is_of t) (sym at_x) ∙ o))
      go false c e o = showing_view v w _ _ (of_site-unheard v j t m w.part.windows (λ x at_x h. ne_eqb x.site t (λ d. eqb-false t v e (sym d ∙ eqb-true x.site v h))))

  -- A SERVER IS ASKED, which is an effect for its site
  served_here : (p : Sites S R) (v : ℕ) (q : Request) (xs : List (Window S)) (w : World S R) → q.site ≡ v → view_of v (replied p q xs w) ≡ with_served (of_site v 0 xs) (p.serve q (w.servers q.site)) (view_of v w)
  served_here p v q xs w e =
      ap₂ (λ k r. record { windows = of_site v 0 xs; token = k; kept = w.part.kept v; server = r })
      (at_this q.site v _ w.part.tokens e ∙ ap (λ z. token_after (p.serve q (w.servers q.site)).reply (w.part.tokens z)) e)
      (at_this q.site v _ w.servers e)

  served_else : (p : Sites S R) (v : ℕ) (q : Request) (xs : List (Window S)) (w : World S R) → eqb q.site v ≡ false → view_of v (replied p q xs w) ≡ view_of v (showing xs w)
  served_else p v q xs w n =
      ap₂ (λ k r. record { windows = of_site v 0 xs; token = k; kept = w.part.kept v; server = r })
      (at_other q.site v _ w.part.tokens n)
      (at_other q.site v _ w.servers n)

  ask_effect : (p : Sites S R) (v s t : ℕ) (h d : Bytes) (w : World S R) → view_of v (replied p (asking w s t h d) w.part.windows w) ≡ takes_all p v (only_for v t (Serves s h d ∷ [])) (view_of v w)
  unfolding takes_all
  ask_effect p v s t h d w = go (eqb t v) refl
    where
      go : (b : Bool) → eqb t v ≡ b → view_of v (replied p (asking w s t h d) w.part.windows w) ≡ takes_all p v (cond b (Serves s h d ∷ []) []) (view_of v w)
      go true e =
          served_here p v (asking w s t h d) w.part.windows w (eqb-true t v e)
          ∙ ap (λ z. with_served (of_site v 0 w.part.windows) (p.serve (asking w s z h d) (w.servers z)) (view_of v w)) (eqb-true t v e)
      go false e = served_else p v (asking w s t h d) w.part.windows w e

  -- the window that is opened
  abbrev begins : Sites S R → ℕ → Bytes → World S R → Window S
  begins p t h w = fresh p.scripts t h (p.serve (fetching w t h) (w.servers t)).reply

  -- A WINDOW IS OPENED, which is an effect for its site
  fresh-effect :
      (p : Sites S R) (v t : ℕ) (h : Bytes) (w : World S R) →
      view_of v (replied p (fetching w t h) (w.part.windows ++ (begins p t h w ∷ [])) w) ≡ takes_all p v (only_for v t (Begins (length w.part.windows) h ∷ [])) (view_of v w)
  unfolding takes_all
  fresh-effect p v t h w = go (eqb t v) refl
    where
      go :
          (b : Bool) → eqb t v ≡ b →
          view_of v (replied p (fetching w t h) (w.part.windows ++ (begins p t h w ∷ [])) w) ≡ takes_all p v (cond b (Begins (length w.part.windows) h ∷ []) []) (view_of v w)
      go true e =
          served_here p v (fetching w t h) (w.part.windows ++ (begins p t h w ∷ [])) w (eqb-true t v e)
          ∙ ap (λ xs. with_served xs (p.serve (fetching w t h) (w.servers t)) (view_of v w)) (of_site-join v w.part.windows (begins p t h w) true e)
          ∙ ap (λ z. with_served (of_site v 0 w.part.windows ++ ((length w.part.windows, begins p z h w) ∷ [])) (p.serve (fetching w z h) (w.servers z)) (view_of v w)) (eqb-true t v e)
      go false e =
          served_else p v (fetching w t h) (w.part.windows ++ (begins p t h w ∷ [])) w e
          ∙ showing_view v w _ _ (of_site-join v w.part.windows (begins p t h w) false e)

  -- the same where there is room, and else nothing: for any event that ends so
  opening-effect :
      (p : Sites S R) (v t : ℕ) (h : Bytes) (w : World S R) (e : Event) → exchanged p e (Some (fetching w t h)) w.part w.servers ≡ replied p (fetching w t h) (w.part.windows ++ (begins p t h w ∷ [])) w →
      view_of v (exchanged p e (page_needed t h w.part) w.part w.servers) ≡ takes_all p v (opening v t h w.part) (view_of v w)
  unfolding takes_all
  opening-effect p v t h w e same = go (ltb (length w.part.windows) most_windows)
    where
      nobody : (b : Bool) → view_of v w ≡ takes_all p v (cond b [] []) (view_of v w)
      nobody true = refl
      nobody false = refl

      go :
          (b : Bool) →
          view_of v (exchanged p e (cond b (Some (fetching w t h)) None) w.part w.servers) ≡ takes_all p v (only_for v t (cond b (Begins (length w.part.windows) h ∷ []) [])) (view_of v w)
      go true = ap (view_of v) same ∙ fresh-effect p v t h w
      go false = nobody (eqb t v)

  abbrev keeping : View S R → Bytes → View S R
  keeping x d = record { windows = x.windows; token = x.token; kept = d; server = x.server }

  -- SOMETHING IS KEPT, which is an effect for the site that keeps it
  keep_effect : (p : Sites S R) (v s : ℕ) (d : Bytes) (w : World S R) (b : Bool) → eqb s v ≡ b → view_of v (does p 0 s (Keeps d) w) ≡ takes_all p v (cond b (Stores d ∷ []) []) (view_of v w)
  unfolding takes_all
  keep_effect p v s d w true e = ap (keeping (view_of v w)) (at_this s v d w.part.kept (eqb-true s v e))
  keep_effect p v s d w false e = ap (keeping (view_of v w)) (at_other s v d w.part.kept e)

  -- WHAT AN ACT DOES, one case for each: window i of site s does it, and its script has run
  act-effects : (p : Sites S R) (v i s : ℕ) (w : World S R) → Sited i s w.part.windows → (a : Act) → view_of v (does p i s a w) ≡ takes_all p v (effects_by p v i s a w) (view_of v w)
  unfolding takes_all
  act-effects p v i s w at_i Idle = refl
  act-effects p v i s w at_i (Asks t h d) =
      let told : Told = answered s t (p.serve (asking w s t h d) (w.servers t)).reply in
      own-effect p v i s (owns told) (Learns i told) (replied p (asking w s t h d) w.part.windows w) (λ x. refl) at_i (λ e. refl)
      ∙ ap (takes_all p v (only_for v s (Learns i told ∷ []))) (ask_effect p v s t h d w)
      ∙ sym (takes_all-join p v (only_for v t (Serves s h d ∷ [])) (only_for v s (Learns i told ∷ [])) (view_of v w))
  act-effects p v i s w at_i (Says j t d) = word-effect p v j t (record { from = s; what = d }) w
  act-effects p v i s w at_i (Keeps d) = keep_effect p v s d w (eqb s v) refl
  act-effects p v i s w at_i Looks =
      own-effect p v i s (owns (Kept (w.part.kept s))) (Finds i) w (λ x. refl) at_i
      (λ e. ap (λ z. with_own (change_at i (owns (Kept (w.part.kept z))) (of_site v 0 w.part.windows)) (view_of v w)) (sym e))
  act-effects p v i s w at_i (Opens t h) = opening-effect p v t h w (TurnOf i) refl

  -- A TURN: the script runs, then it acts
  run_effect : (p : Sites S R) (v i : ℕ) (x : Window S) (w : World S R) → nth i w.part.windows ≡ Some x → view_of v (after_run p i w) ≡ takes_all p v (only_for v x.site (Runs i ∷ [])) (view_of v w)
  run_effect p v i x w at_x = own-effect p v i x.site (stepped p.scripts) (Runs i) w (λ y. refl) (sited_this i x.site w.part.windows x at_x refl) (λ e. refl)

  -- the run changes no window's site and opens none, so the act's effects are those that it has before
  effects-after : (p : Sites S R) (v i s : ℕ) (w : World S R) (a : Act) → effects_by p v i s a (after_run p i w) ≡ effects_by p v i s a w
  effects-after p v i s w Idle = refl
  effects-after p v i s w (Asks t h d) = refl
  effects-after p v i s w (Says j t d) = ap (λ b. only_for v t (cond b (Hears j s d ∷ []) [])) (is_of-change t i j (stepped p.scripts) w.part.windows (λ x. refl))
  effects-after p v i s w (Keeps d) = refl
  effects-after p v i s w Looks = refl
  effects-after p v i s w (Opens t h) = ap (λ n. only_for v t (cond (ltb n most_windows) (Begins n h ∷ []) [])) (change-length i (stepped p.scripts) w.part.windows)

  turn_effects : (p : Sites S R) (v i : ℕ) (w : World S R) (f : Option (Window S)) → nth i w.part.windows ≡ f → view_of v (happens p (TurnOf i) w) ≡ takes_all p v (effects_of p v i f w) (view_of v w)
  unfolding takes_all
  turn_effects p v i w None at_x = ap (λ f. view_of v (exchanged p (TurnOf i) (needs_of p.scripts f w.part) (begun_by p.scripts i f w.part) w.servers)) at_x
  turn_effects p v i w (Some x) at_x =
      let s : ℕ = x.site in
      let a : Act = act_of p.scripts x in
      let sited : Sited i s (running p i w) = sited_this i s (running p i w) (stepped p.scripts x) (nth-change i (stepped p.scripts) w.part.windows x at_x) refl in
      ap (view_of v) (turn_is p i x w at_x a refl)
      ∙ act-effects p v i s (after_run p i w) sited a
      ∙ ap (λ es. takes_all p v es (view_of v (after_run p i w))) (effects-after p v i s w a)
      ∙ ap (takes_all p v (effects_by p v i s a w)) (run_effect p v i x w at_x)
      ∙ sym (takes_all-join p v (only_for v s (Runs i ∷ [])) (effects_by p v i s a w) (view_of v w))

module _ (S R : Type 0) where
  pub view_law : ViewLaw S R
  view_law p v (Opening t h) w = opening-effect p v t h w (Opening t h) refl
  view_law p v (TurnOf i) w = turn_effects p v i w (nth i w.part.windows) refl

  -- one moment of a run
  moment : (p : Sites S R) (v : ℕ) (x : Run S R) (d : Option Due) → view_of v (step_by p x d).world ≡ takes_all p v (effects_on p v x.world (event_by d)) (view_of v x.world)
  unfolding takes_all
  moment p v x None = refl
  moment p v x (Some d) = view_law p v d.event x.world

  pub history_law : HistoryLaw S R
  unfolding iterate trace concat takes_all
  history_law p v zero x = refl
  history_law p v (suc n) x =
      history_law p v n (step p x)
      ∙ ap (takes_all p v (concat (trace (step p) (effects_now p v) n (step p x)))) (moment p v x (due_now x))
      ∙ sym (takes_all-join p v (effects_now p v x) (concat (trace (step p) (effects_now p v) n (step p x))) (view_of v x.world))

  -- ANOTHER'S TURN: what an act of a window of another site does to v, one case for each act
  module _ (p : Sites S R) (v : ℕ) (w : World S R) (x : Window S) where
    foreign_asks : (t : ℕ) (h d : Bytes) (b : Bool) → eqb t v ≡ b → act_of p.scripts x ≡ Asks t h d → Foreign p v w x (cond b (Serves x.site h d ∷ []) [])
    foreign_asks t h d true e a = asks h d (a ∙ ap {B = Act} (λ z. Asks z h d) (eqb-true t v e))
    foreign_asks t h d false e a = nothing

    foreign_says : (j t : ℕ) (d : Bytes) (b : Bool) → eqb t v ≡ b → (f : Option (Window S)) → nth j w.part.windows ≡ f → act_of p.scripts x ≡ Says j t d → Foreign p v w x (cond b (cond (is_of t f) (Hears j x.site d ∷ []) []) [])
    foreign_says j t d true e None at_y a = nothing
    foreign_says j t d true e (Some y) at_y a = go (eqb y.site t) refl
      where
        go : (c : Bool) → eqb y.site t ≡ c → Foreign p v w x (cond c (Hears j x.site d ∷ []) [])
        go true o = says j d y (a ∙ ap {B = Act} (λ z. Says j z d) (eqb-true t v e)) at_y (eqb-true y.site t o ∙ eqb-true t v e)
        go false o = nothing
    foreign_says j t d false e f at_y a = nothing

    foreign_opens : (t : ℕ) (h : Bytes) (b c : Bool) → eqb t v ≡ b → ltb (length w.part.windows) most_windows ≡ c → act_of p.scripts x ≡ Opens t h → Foreign p v w x (cond b (cond c (Begins (length w.part.windows) h ∷ []) []) [])
    foreign_opens t h true true e l a = opens h (a ∙ ap {B = Act} (λ z. Opens z h) (eqb-true t v e)) (ltb-true (length w.part.windows) most_windows l)
    foreign_opens t h true false e l a = nothing
    foreign_opens t h false c e l a = nothing

    foreign_act : (i : ℕ) → eqb x.site v ≡ false → (a : Act) → act_of p.scripts x ≡ a → Foreign p v w x (effects_by p v i x.site a w)
    foreign_act i n Idle e = nothing
    foreign_act i n (Asks t h d) e = rw (n, append-nil) (foreign_asks t h d (eqb t v) refl e)
    foreign_act i n (Says j t d) e = foreign_says j t d (eqb t v) refl (nth j w.part.windows) refl e
    foreign_act i n (Keeps d) e = rw n nothing
    foreign_act i n Looks e = rw n nothing
    foreign_act i n (Opens t h) e = foreign_opens t h (eqb t v) (ltb (length w.part.windows) most_windows) refl refl e

  pub touched_only : TouchedOnly S R
  touched_only p v w i x at_x n =
      let other : eqb x.site v ≡ false = ne_eqb x.site v n in
      subst (λ f. Foreign p v w x (effects_of p v i f w)) (sym at_x)
      (subst (λ b. Foreign p v w x (cond b (Runs i ∷ []) [] ++ effects_by p v i x.site (act_of p.scripts x) w)) (sym other) (foreign_act p v w x i other (act_of p.scripts x) refl))
