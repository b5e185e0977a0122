-- An event keeps worlds alike but for a group, if the group lets out the same in both.
use Rattle.std.proofs.Common.{◌≡◌, ℕ, true, false, cond, not, ◌&&◌, eqb, ltb, [], ◌∷◌, Some, None, Option, sym, refl, ap, ◌∙◌, subst, true≢false}
use Rattle.pages.specs.Sites.{Act, Idle, Asks, Says, Keeps, Looks, Opens, Silence, Request, Sites}
use Rattle.pages.specs.Browser.{Window, World, most_windows, nth, told_now, named, words_left, act_of, stepped, acted, needs_by, needs_of, begun_by, needs, exchanged, happens, Event, Opening, TurnOf}
use Rattle.pages.specs.Outs.{out, Said, outs_of, outs, Group, let_out}
use Rattle.pages.specs.Promise.{Others}
use Rattle.pages.proofs.Places.{nth-change, change-length, is_of-change, Sited, sited_this}
use Rattle.pages.proofs.Same.{both_own, one_other, SameFound, nobody, somebody, same_change, same-done, same_nth}
use Rattle.pages.proofs.Close.{Close}
use Rattle.pages.proofs.Turns.{after_run, does}
use Rattle.pages.proofs.Shown.{shown, visible, own-lets}
use Rattle.pages.proofs.Acts.{reply_done, outs_done, Result, SameResult, result_sym, result_trans, done, hide, does_same, page_same, opening_same}

module _ {S R : Type 0} where
  -- what comes of a turn, by the window that is there
  abbrev turned : Sites S R → ℕ → Option (Window S) → World S R → Result S R
  turned p i f w = record { world = exchanged p (TurnOf i) (needs_of p.scripts f w.part) (begun_by p.scripts i f w.part) w.servers; outs = outs_of p f w; request = needs_of p.scripts f w.part }

  -- what comes of an event
  abbrev pub result_of : Sites S R → Event → World S R → Result S R
  result_of p e w = record { world = happens p e w; outs = outs p e w; request = needs p.scripts e w.part }

  -- what an act needs and lets out is the same before and after the script has run
  turn_act : (p : Sites S R) (i s : ℕ) (w : World S R) (a : Act) →
      ◌≡◌ {A = Result S R}
      (record { world = exchanged p (TurnOf i) (needs_by s a w.part) (acted i s a (after_run p i w).part) w.servers; outs = outs_done p s a w; request = needs_by s a w.part })
      (done p i s a (after_run p i w))
  turn_act p i s w Idle = refl
  turn_act p i s w (Asks t l d) = refl
  turn_act p i s w (Says j t d) =
      ap {B = Result S R} (λ b. record { world = does p i s (Says j t d) (after_run p i w); outs = cond (not (eqb t s) && b) (out s t (Said j d) ∷ []) []; request = None })
      (sym (is_of-change t i j (stepped p.scripts) w.part.windows (λ x. refl)))
  turn_act p i s w (Keeps d) = refl
  turn_act p i s w Looks = refl
  turn_act p i s w (Opens t l) =
      ap {B = Result S R} (λ n. opened (cond (ltb n most_windows) (Some (record { site = t; from = None; token = w.part.tokens t; path = l; body = [] })) None)) (sym (change-length i (stepped p.scripts) w.part.windows))
    where
      opened : Option Request → Result S R
      opened a = record { world = exchanged p (TurnOf i) a (after_run p i w).part w.servers; outs = outs_done p s (Opens t l) w; request = a }

  turn_is : (p : Sites S R) (i : ℕ) (x : Window S) (w : World S R) → turned p i (Some x) w ≡ done p i x.site (act_of p.scripts x) (after_run p i w)
  turn_is p i x w = turn_act p i x.site w (act_of p.scripts x)

  sited_ran : (p : Sites S R) (i : ℕ) (w : World S R) (x : Window S) → nth i w.part.windows ≡ Some x → Sited i x.site (after_run p i w).part.windows
  sited_ran p i w x e = sited_this i x.site _ (stepped p.scripts x) (nth-change i (stepped p.scripts) w.part.windows x e) refl

module _ {S R : Type 0} {h : Group} where
  -- a turn of a window of the group is for others what it lets out
  own_turn : (p : Sites S R) (i s : ℕ) (w : World S R) (x : Window S) → nth i w.part.windows ≡ Some x → x.site ≡ s → h x.site ≡ true →
      SameResult h (turned p i (Some x) w) (done p i s (shown (let_out h (outs_of p (Some x) w))) (after_run p i w))
  own_turn p i s w x e site m =
      let a : Act = act_of p.scripts x in
      let u : World S R = after_run p i w in
      let lets : visible h u.part.windows x.site a ≡ let_out h (outs_of p (Some x) w) =
      sym (ap (λ z. let_out h z.outs) (turn_is p i x w) ∙ own-lets h u.part.windows x.site m a (reply_done p x.site a u)) in
      subst (λ z. SameResult h (turned p i (Some x) w) (done p i z (shown (let_out h (outs_of p (Some x) w))) u)) site
      (subst (λ z. SameResult h z (done p i x.site (shown (let_out h (outs_of p (Some x) w))) u)) (sym (turn_is p i x w))
      (subst (λ z. SameResult h (done p i x.site a u) (done p i x.site (shown z) u)) lets (hide p i x.site u m (sited_ran p i w x e) a)))

  module _ {p q : Sites S R} (o : Others h p q) {w u : World S R} (r : Close h w u) where
    stepped_same : (x : Window S) → h x.site ≡ false → stepped p.scripts x ≡ stepped q.scripts x
    stepped_same x n = ap {B = Window S} (λ st. record { site = x.site; state = st; own = Silence; words = words_left x }) (o.next x.site x.state (told_now x) n)

    ran_same : (i : ℕ) → Close h (after_run p i w) (after_run q i u)
    ran_same i =
        record { windows = same_change i (stepped p.scripts) (stepped q.scripts) (λ x y c b z. same-done (stepped p.scripts) (stepped q.scripts) (λ x'. refl) (λ x'. refl) x y (stepped_same x) z) r.windows; tokens = r.tokens; kept = r.kept; servers = r.servers }

    act_same : (x : Window S) → h x.site ≡ false → act_of p.scripts x ≡ act_of q.scripts x
    act_same x n = ap (λ z. named z (p.scripts.act x.site x.state (told_now x))) o.sites ∙ ap (named q.scripts.sites) (o.act x.site x.state (told_now x) n)

    turned_same : (i : ℕ) (f g : Option (Window S)) → nth i w.part.windows ≡ f → nth i u.part.windows ≡ g → SameFound h f g → let_out h (outs_of p f w) ≡ let_out h (outs_of q g u) → SameResult h (turned p i f w) (turned q i g u)
    turned_same i f g at_f at_g nobody e = record { worlds = r; outs = refl; requests = refl }
    turned_same i f g at_f at_g (somebody {x} {y} (both_own a b)) e =
        let act : Act = shown (let_out h (outs_of p (Some x) w)) in
        result_trans (own_turn p i x.site w x at_f refl a)
        (result_trans (does_same o (ran_same i) i x.site act (sited_ran p i w x at_f) (λ n. absurd (true≢false (sym a ∙ n))))
        (subst (λ z. SameResult h (done q i x.site (shown z) (after_run q i u)) (turned q i (Some y) u)) (sym e)
        (result_sym (own_turn q i x.site u y at_g (sym b) (ap h (sym b) ∙ a)))))
    turned_same i f g at_f at_g (somebody {x} (one_other n)) e =
        let s : ℕ = x.site in
        let a : Act = act_of p.scripts x in
        let to : turned q i (Some x) u ≡ done q i s a (after_run q i u) = turn_is q i x u ∙ ap {B = Result S R} (λ z. done q i s z (after_run q i u)) (sym (act_same x n)) in
        let lets : let_out h (outs_done p s a (after_run p i w)) ≡ let_out h (outs_done q s a (after_run q i u)) =
        ap (λ z. let_out h z.outs) (sym (turn_is p i x w)) ∙ e ∙ ap (λ z. let_out h z.outs) to in
        subst (λ z. SameResult h z (turned q i (Some x) u)) (sym (turn_is p i x w))
        (subst (λ z. SameResult h (done p i s a (after_run p i w)) z) (sym to)
        (does_same o (ran_same i) i s a (sited_ran p i w x at_f) (λ m. lets)))

    pub event_same : (e : Event) → let_out h (outs p e w) ≡ let_out h (outs q e u) → SameResult h (result_of p e w) (result_of q e u)
    event_same (Opening t l) e = record { worlds = opening_same o r t l; outs = refl; requests = page_same o r t l }
    event_same (TurnOf i) e = turned_same i _ _ refl refl (same_nth i r.windows) e
