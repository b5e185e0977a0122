-- There are at most 16 windows, and at most 8 words wait for each.
use Rattle.std.proofs.Common.{◌≡◌, ℕ, ◌<◌, ◌≤◌, Bool, true, false, cond, ◌&&◌, eqb, ltb, List, [], ◌∷◌, length, Some, None, Option, sym, refl, ◌∙◌, subst, arith, length-append, ltb-true}
use Rattle.pages.specs.Sites.{Bytes, Act, Idle, Asks, Says, Keeps, Looks, Opens, Request, Reply, Scripts, Sites}
use Rattle.pages.specs.Browser.{Word, Window, Part, World, most_windows, most_words, nth, is_silence, other_words, act_of, joined, hears, page_needed, needs_by, replied_to, needs_of, begun, needs, happens, Event, Opening, TurnOf}
use Rattle.pages.specs.Runs.{Due, Run, due_now, step_by, step, begin}
use Rattle.pages.specs.Laws.{Every, Limits}
use Rattle.pages.proofs.Places.{none-some, change-length}
use Rattle.pages.proofs.Invariants.{always, begun-keeps, whose, exchanged-keeps, every_happens}

-- a window is added only to fewer than 16
abbrev HasRoom : Event → Option Request → ℕ → Type 0
HasRoom e None n = Unit {0}
HasRoom e (Some a) n = whose e a ≡ None → n < 16

left-limit : (o : Bool) (ms : List Word) → length ms ≤ 8 → length (cond o (other_words ms) ms) ≤ 8
left-limit true [] h = h
left-limit true (m ∷ ms) h = omega arith
left-limit false ms h = h

module _ {S : Type 0} where
  page_room : (e : Event) (t : ℕ) (h : Bytes) (b : Part S) → HasRoom e (page_needed t h b) (length b.windows)
  page_room e t h b = go (ltb (length b.windows) most_windows) refl
    where
      go : (z : Bool) → ltb (length b.windows) most_windows ≡ z → HasRoom e (cond z (Some (record { site = t; from = None; token = b.tokens t; path = h; body = [] })) None) (length b.windows)
      go true m = λ q. omega (arith, ltb-true (length b.windows) most_windows m)
      go false m = tt

  act-room : (i s : ℕ) (a : Act) (b : Part S) → HasRoom (TurnOf i) (needs_by s a b) (length b.windows)
  act-room i s Idle b = tt
  act-room i s (Asks t h d) b = λ q. absurd (none-some s (sym q))
  act-room i s (Says j t d) b = tt
  act-room i s (Keeps d) b = tt
  act-room i s Looks b = tt
  act-room i s (Opens t h) b = page_room (TurnOf i) t h b

  turn_room : (c : Scripts S) (i : ℕ) (f : Option (Window S)) (b : Part S) → HasRoom (TurnOf i) (needs_of c f b) (length b.windows)
  turn_room c i None b = tt
  turn_room c i (Some x) b = act-room i x.site (act_of c x) b

  needs-room : (c : Scripts S) (e : Event) (b : Part S) → HasRoom e (needs c e b) (length b.windows)
  needs-room c (Opening t h) b = page_room (Opening t h) t h b
  needs-room c (TurnOf i) b = turn_room c i (nth i b.windows) b

  -- before a server is asked no window is added
  begun-length : (c : Scripts S) (e : Event) (b : Part S) → length (begun c e b).windows ≡ length b.windows
  begun-length c e b =
      begun-keeps (λ xs. length xs ≡ length b.windows) c (λ i xs h. change-length i _ xs ∙ h) (λ i m xs h. change-length i _ xs ∙ h) (λ i t m xs h. change-length i _ xs ∙ h) e b refl

  replied_length : (c : Scripts S) (i : ℕ) (o : Option ℕ) (a : Request) (r : Reply) (b : Part S) → (o ≡ None → length b.windows < 16) → length b.windows ≤ 16 → length (replied_to c i o a r b).windows ≤ 16
  replied_length c i None a r b k h = let room : length b.windows < 16 = k refl in simp length-append (omega arith)
  replied_length c i (Some s) a r b k h = subst (λ n. n ≤ 16) (sym (change-length i _ b.windows)) h

  -- a window with a word more has at most 8
  hears-limit : (t : ℕ) (m : Word) (x : Window S) → length x.words ≤ 8 → length (hears t m x).words ≤ 8
  hears-limit t m x h = go (eqb x.site t) (ltb (length x.words) most_words) refl
    where
      go : (c z : Bool) → ltb (length x.words) most_words ≡ z → length (cond (c && z) (joined m x) x).words ≤ 8
      go true true e = let room : length x.words < most_words = ltb-true (length x.words) most_words e in simp length-append (omega arith)
      go true false e = h
      go false z e = h

module _ {S R : Type 0} (p : Sites S R) where
  happens-length : (e : Event) (w : World S R) → length w.part.windows ≤ 16 → length (happens p e w).part.windows ≤ 16
  happens-length e w h =
      let b : Part S = begun p.scripts e w.part in
      let same : length w.part.windows ≡ length b.windows = sym (begun-length p.scripts e w.part) in
      let few : length b.windows ≤ 16 = subst (λ n. n ≤ 16) same h in
      exchanged-keeps (λ c. length c.windows ≤ 16) p e (needs p.scripts e w.part) b w.servers few
      (λ i a m q. replied_length p.scripts i (whose e a) a m b (subst (HasRoom e (Some a)) same (subst (λ z. HasRoom e z (length w.part.windows)) q (needs-room p.scripts e w.part))) few)

  abbrev Limited : List (Window S) → Type 0
  Limited xs = (length xs ≤ 16) × Every (λ x. length x.words ≤ 8) xs

  step_limits : (x : Run S R) (d : Option Due) → Limited x.world.part.windows → Limited (step_by p x d).world.part.windows
  step_limits x None h = h
  step_limits x (Some d) h = (
    happens-length d.event x.world h.0,
    every_happens (λ y. length y.words ≤ 8) p (λ y. left-limit (is_silence y.own) y.words) (λ m y k. k) hears-limit d.event x.world (λ a r e. omega arith) h.1,
  )

module _ (S R : Type 0) where
  pub limits : Limits S R
  unfolding Every
  limits p g r n = always (λ x. Limited p x.world.part.windows) (step p) (λ x. step_limits p x (due_now x)) n (begin g r) (omega arith, tt)
