-- One event on both sides.
use Rattle.std.proofs.Common.{◌≡◌, ℕ, suc, List, length, Some, sym, ap, ◌∙◌, subst, subst₂}
use Rattle.std.specs.Option.{option_map}
use Rattle.machine.specs.Script.{State}
use Rattle.pages.specs.Sites.{Bytes, Sites}
use Rattle.pages.specs.Browser.{Part, Event}
use Rattle.pages.specs.Outs.{Out, Group, let_out, keep_only, by_others}
use Rattle.pages.specs.Runs.{Agenda, Run, due, step, after, outs_now, request_on, request_now}
use Rattle.pages.specs.Promise.{AlikeRuns, to_others}
use Rattle.pages.proofs.Same.{same_length}
use Rattle.pages.proofs.Close.{close_alike}
use Rattle.browser.specs.Wire.{SiteTable}
use Rattle.book.specs.Records.{Entry}
use Rattle.plans.specs.Agendas.{event_in, rest_of}
use Rattle.compare.specs.Alike.{world}
use Rattle.compare.specs.Sent.{sent_to_others}
use Rattle.runs.specs.Events.{asked, sent, Occurs}
use Rattle.runs.specs.Chains.{Moment, Step}
use Rattle.runs.specs.Exact.{Serving, sites_with}
use Rattle.runs.proofs.Chaining.{step_so}
use Rattle.runs.proofs.Exactly.{G, run_step, outs-step}
use Rattle.side_by_side.specs.Leaks.{NoLeak}
use Rattle.side_by_side.proofs.Sides.{same_event, Sides, alike_now, sides_more}
use Rattle.side_by_side.proofs.Wired.{on_wire, wired}

-- No book is kept.
abbrev pub Unnoted : Unit {0} → Entry → Unit {0} → Type 0
Unnoted x e y = Unit {0}

module _ {R C : Type 0} (serving : Serving R) (room answer : ℕ) (table : SiteTable) (states : C → ℕ → R) where
  abbrev p : Sites State R
  p = sites_with serving room answer table

  abbrev may : C → ℕ → Bytes → Bytes → C → Type 0
  may = G serving room answer table states Unnoted

  -- a side at a moment
  abbrev pub at : Part State → C → Agenda → Run State R
  at b c a = record { world = world b (states c); agenda = a }

  module _ (a a' : Agenda) (e : Event) where
    -- what an event does on one side
    pub record SideEvent (b b' : Part State) (c c' : C) (entry : Entry) : Type 0 where
      pub run_so : at b' c' a' ≡ step p (at b c a)
      pub outs_so : entry.outs ≡ outs_now p (at b c a)
      pub asks_so : asked table e b ≡ request_now p (at b c a)

    pub side_event : (b b' : Part State) (c c' : C) (entry : Entry) → Some e ≡ event_in (due (length b.windows) a) → a' ≡ rest_of (due (length b.windows) a) → Occurs may room table e b c entry b' c' → SideEvent b b' c c' entry
    side_event b b' c c' entry ev rs o =
        let x : Moment C (Unit {0}) = record { part = b; agenda = a; carrier = c; book = tt } in
        let y : Moment C (Unit {0}) = record { part = b'; agenda = a'; carrier = c'; book = tt } in
        let s : Step may Unnoted room table x entry y = step_so may Unnoted room table x y e entry ev rs o tt in
        record {
          run_so = run_step serving room answer table states Unnoted x y entry s;
          outs_so = outs-step serving room answer table states Unnoted x y entry s;
          asks_so = ap (request_on p (world b (states c))) ev;
        }

    module _ (h : Group) (b b' d d' : Part State) (c c' f f' : C) (one two : Entry) (alike : AlikeRuns h (at b c a) (at d f a))
        (ev : Some e ≡ event_in (due (length b.windows) a)) (rs : a' ≡ rest_of (due (length b.windows) a)) (o : Occurs may room table e b c one b' c') (q : Occurs may room table e d f two d' f') where
      -- as many windows on both sides
      count : length b.windows ≡ length d.windows
      count = same_length (close_alike alike.world).windows

      pub left_side : SideEvent b b' c c' one
      left_side = side_event b b' c c' one ev rs o

      pub right_side : SideEvent d d' f f' two
      right_side = side_event d d' f f' two (ev ∙ ap (λ z. event_in (due z a)) count) (rs ∙ ap (λ z. rest_of (due z a)) count) q

      -- what the site lets out, by the entries and by the runs
      pub lets_same : let_out h one.outs ≡ let_out h two.outs → let_out h (outs_now p (at b c a)) ≡ let_out h (outs_now p (at d f a))
      lets_same l = ap (let_out h) (sym left_side.outs_so) ∙ l ∙ ap (let_out h) right_side.outs_so

      pub lets_apart : (let_out h one.outs ≡ let_out h two.outs → ⊥) → let_out h (outs_now p (at b c a)) ≡ let_out h (outs_now p (at d f a)) → ⊥
      lets_apart n l = n (ap (let_out h) left_side.outs_so ∙ l ∙ ap (let_out h) (sym right_side.outs_so))

      -- THERE IS NO LEAK: as long as the site lets out the same, nothing of others differs
      pub no_leak : let_out h one.outs ≡ let_out h two.outs →
          NoLeak h (world b' (states c')) (world d' (states f')) one.outs two.outs
          (sent_to_others h (option_map (λ r. r.site) (asked table e b)) (sent room table (asked table e b)))
          (sent_to_others h (option_map (λ r. r.site) (asked table e d)) (sent room table (asked table e d)))
      no_leak l =
          let s = same_event p h (at b c a) (at d f a) alike (lets_same l) in
          let w : AlikeRuns h (at b' c' a') (at d' f' a') = subst₂ (λ x y. AlikeRuns h x y) (sym left_side.run_so) (sym right_side.run_so) s.runs in
          record {
            alike = w.world;
            outs = ap (keep_only (by_others h)) left_side.outs_so ∙ s.outs ∙ ap (keep_only (by_others h)) (sym right_side.outs_so);
            requests =
                wired h room table (asked table e b) ∙ ap (λ z. on_wire h room table (to_others h z)) left_side.asks_so
                ∙ ap (on_wire h room table) s.requests ∙ ap (λ z. on_wire h room table (to_others h z)) (sym right_side.asks_so) ∙ sym (wired h room table (asked table e d));
          }

-- The same event under other names of the rooms and the table.
pub renamed : {C : Type 0} (may : ℕ → C → ℕ → Bytes → Bytes → C → Type 0) (e : Event) (b b' : Part State) (c c' : C) (entry : Entry) (r r' n n' : ℕ) (t t' : SiteTable) → r ≡ r' → n ≡ n' → t ≡ t' →
    Occurs (may r) n t e b c entry b' c' → Occurs (may r') n' t' e b c entry b' c'
renamed may e b b' c c' entry r r' n n' t t' er en et o =
    subst (λ z. Occurs (may r') n' z e b c entry b' c') et (subst (λ z. Occurs (may r') z t e b c entry b' c') en (subst (λ z. Occurs (may z) n t e b c entry b' c') er o))

module _ {R C : Type 0} (serving : Serving R) (room answer : ℕ) (table : SiteTable) (states : C → ℕ → R) (h : Group) (x y : Run State R) (start : AlikeRuns h x y) where
  -- What is known of both sides once an event has happened on both, after k events in which the site let out the same.
  pub record Events (k : ℕ) (e : Event) (b b' d d' : Part State) (c c' f f' : C) (a a' : Agenda) (one two : Entry) : Type 0 where
    pub apart : (let_out h one.outs ≡ let_out h two.outs → ⊥) → let_out h (outs_now (sites_with serving room answer table) (after (sites_with serving room answer table) k x)) ≡ let_out h (outs_now (sites_with serving room answer table) (after (sites_with serving room answer table) k y)) → ⊥
    pub unleaked : let_out h one.outs ≡ let_out h two.outs →
        NoLeak h (world b' (states c')) (world d' (states f')) one.outs two.outs
        (sent_to_others h (option_map (λ r. r.site) (asked table e b)) (sent room table (asked table e b)))
        (sent_to_others h (option_map (λ r. r.site) (asked table e d)) (sent room table (asked table e d)))
    pub more : let_out h one.outs ≡ let_out h two.outs → Sides (sites_with serving room answer table) h x y (suc k) (at serving room answer table states b' c' a') (at serving room answer table states d' f' a')

  pub both_events : (k m : ℕ) (e : Event) (b b' d d' : Part State) (c c' f f' : C) (a a' : Agenda) (one two : Entry) →
      Sides (sites_with serving room answer table) h x y k (at serving room answer table states b c a) (at serving room answer table states d f a) →
      m ≡ length b.windows → Some e ≡ event_in (due m a) → a' ≡ rest_of (due m a) →
      Occurs (G serving room answer table states Unnoted) room table e b c one b' c' → Occurs (G serving room answer table states Unnoted) room table e d f two d' f' →
      Events k e b b' d d' c c' f f' a a' one two
  both_events k m e b b' d d' c c' f f' a a' one two s n ev rs o q =
      let p = sites_with serving room answer table in
      let here = alike_now p h x y start k (at serving room answer table states b c a) (at serving room answer table states d f a) s in
      let ev' = ev ∙ ap (λ z. event_in (due z a)) n in
      let rs' = rs ∙ ap (λ z. rest_of (due z a)) n in
      let see : Run State R → List Out = λ z. let_out h (outs_now p z) in
      record {
        apart = λ l t. lets_apart serving room answer table states a a' e h b b' d d' c c' f f' one two here ev' rs' o q l (ap see s.at_one ∙ t ∙ ap see (sym s.at_two));
        unleaked = no_leak serving room answer table states a a' e h b b' d d' c c' f f' one two here ev' rs' o q;
        more = λ l. sides_more p h x y start k _ _ _ _ s (left_side serving room answer table states a a' e h b b' d d' c c' f f' one two here ev' rs' o q).run_so (right_side serving room answer table states a a' e h b b' d d' c c' f f' one two here ev' rs' o q).run_so
            (lets_same serving room answer table states a a' e h b b' d d' c c' f f' one two here ev' rs' o q l);
      }
