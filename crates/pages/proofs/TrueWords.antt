-- The words that wait for a window are the last of those that were said to it.
use Rattle.std.proofs.Common.{◌≡◌, ℕ, zero, suc, Bool, true, false, cond, ◌&&◌, eqb, List, [], ◌∷◌, ◌++◌, Some, None, Option, sym, refl, ap, ◌∙◌, subst, append_assoc, append-nil, eqb-true}
use borrow.Author.Tests.{eqb-false}
use Rattle.pages.specs.Sites.{Act, Idle, Asks, Says, Keeps, Looks, Opens, Request, Reply, Sites}
use Rattle.pages.specs.Browser.{Word, Window, Part, World, nth, change, is_silence, other_words, act_of, stepped, owns, joined, hears, fresh, acted, page_needed, replied_to, with_windows, begun_by, begun, needs, exchanged, happens, Event, Opening, TurnOf}
use Rattle.pages.specs.Runs.{trace, Due, Run, due_now, event_by, step_by, step, begin}
use Rattle.pages.specs.Views.{concat}
use Rattle.pages.specs.Laws.{accepts, delivered_by, delivered_of, delivered_on, delivered_now, WordsTruly}
use Rattle.pages.proofs.Places.{none-some, nth-change, nth-change_other}
use Rattle.pages.proofs.Invariants.{history, whose, exchanged-keeps}

-- the words that wait for a window are the last of those that were said to it; to one that isn't there nothing was said
abbrev Truly : {S : Type 0} → List Word → Option (Window S) → Type 0
Truly said None = said ≡ []
Truly said (Some y) = (gone : List Word) × (gone ++ y.words ≡ said)

left_truly : (said : List Word) (o : Bool) (ms : List Word) → (gone : List Word) × (gone ++ ms ≡ said) → (gone : List Word) × (gone ++ cond o (other_words ms) ms ≡ said)
left_truly said true [] h = h
left_truly said true (m ∷ ms) h = (h.0 ++ (m ∷ []), append_assoc h.0 (m ∷ []) ms ∙ h.1)
left_truly said false ms h = h

module _ {S : Type 0} where
  same_truly : (said : List Word) (f : Option (Window S)) → Truly said f → Truly (said ++ []) f
  same_truly said f h = subst (λ s. Truly s f) (sym (append-nil said)) h

  -- a change after which no other words wait, but fewer
  change_truly : (said : List Word) (j i : ℕ) (f : Window S → Window S) → ((y : Window S) → Truly said (Some y) → Truly said (Some (f y))) → (xs : List (Window S)) → Truly said (nth j xs) → Truly said (nth j (change i f xs))
  unfolding nth change
  change_truly said j i f k [] h = h
  change_truly said zero zero f k (y ∷ ys) h = k y h
  change_truly said zero (suc i) f k (y ∷ ys) h = h
  change_truly said (suc j) zero f k (y ∷ ys) h = h
  change_truly said (suc j) (suc i) f k (y ∷ ys) h = change_truly said j i f k ys h

  -- a window more, for which no words wait
  join_truly : (said : List Word) (j : ℕ) (y : Window S) → y.words ≡ [] → (xs : List (Window S)) → Truly said (nth j xs) → Truly said (nth j (xs ++ (y ∷ [])))
  unfolding nth
  join_truly said zero y e [] h = ([], e ∙ sym h)
  join_truly said (suc j) y e [] h = h
  join_truly said zero y e (x ∷ xs) h = h
  join_truly said (suc j) y e (x ∷ xs) h = join_truly said j y e xs h

  nth-change-none : (j i : ℕ) (f : Window S → Window S) (xs : List (Window S)) → nth j xs ≡ None → nth j (change i f xs) ≡ None
  unfolding nth change
  nth-change-none j i f [] e = refl
  nth-change-none zero i f (y ∷ ys) e = absurd (none-some y (sym e))
  nth-change-none (suc j) zero f (y ∷ ys) e = e
  nth-change-none (suc j) (suc i) f (y ∷ ys) e = nth-change-none j i f ys e

  -- a word is said to a window: it waits behind the others, or the window doesn't take it
  heard_truly : (said : List Word) (m : Word) (y : Window S) (z : Bool) → Truly said (Some y) → Truly (said ++ cond z (m ∷ []) []) (Some (cond z (joined m y) y))
  heard_truly said m y true h = (h.0, sym (append_assoc h.0 y.words (m ∷ [])) ∙ ap (λ s. s ++ (m ∷ [])) h.1)
  heard_truly said m y false h = same_truly said (Some y) h

  says-truly :
      (said : List Word) (j l t : ℕ) (m : Word) (xs : List (Window S)) (f : Option (Window S)) → nth j xs ≡ f → Truly said f → (z : Bool) → eqb j l ≡ z →
      Truly (said ++ cond (z && accepts t f) (m ∷ []) []) (nth j (change l (hears t m) xs))
  says-truly said j l t m xs f e h false n = subst (Truly (said ++ [])) (sym (nth-change_other l j (hears t m) xs (λ c. eqb-false j l n (sym c)) ∙ e)) (same_truly said f h)
  says-truly said j l t m xs None e h true n = subst (Truly (said ++ [])) (sym (nth-change-none j l (hears t m) xs e)) (same_truly said None h)
  says-truly said j l t m xs (Some y) e h true n =
      let here : nth j (change l (hears t m) xs) ≡ Some (hears t m y) = subst (λ k. nth j (change k (hears t m) xs) ≡ Some (hears t m y)) (eqb-true j l n) (nth-change j (hears t m) xs y e) in
      subst (Truly (said ++ cond (accepts t (Some y)) (m ∷ []) [])) (sym here) (heard_truly said m y (accepts t (Some y)) h)

  acted_truly : (said : List Word) (j i s : ℕ) (a : Act) (b : Part S) → Truly said (nth j b.windows) → Truly (said ++ delivered_by j s a (nth j b.windows)) (nth j (acted i s a b).windows)
  acted_truly said j i s Idle b h = same_truly said (nth j b.windows) h
  acted_truly said j i s (Asks t l d) b h = same_truly said (nth j b.windows) h
  acted_truly said j i s (Says l t d) b h = says-truly said j l t (record { from = s; what = d }) b.windows (nth j b.windows) refl h (eqb j l) refl
  acted_truly said j i s (Keeps d) b h = same_truly said (nth j b.windows) h
  acted_truly said j i s Looks b h = same_truly said (nth j (change i (owns _) b.windows)) (change_truly said j i (owns _) (λ y k. k) b.windows h)
  acted_truly said j i s (Opens t l) b h = same_truly said (nth j b.windows) h

module _ {S R : Type 0} (p : Sites S R) (j : ℕ) where
  replied_truly : (said : List Word) (i : ℕ) (o : Option ℕ) (a : Request) (r : Reply) (b : Part S) → Truly said (nth j b.windows) → Truly said (nth j (replied_to p.scripts i o a r b).windows)
  replied_truly said i None a r b h = join_truly said j (fresh p.scripts a.site a.path r) refl b.windows h
  replied_truly said i (Some s) a r b h = change_truly said j i (owns _) (λ y k. k) b.windows h

  exchanged_truly : (said : List Word) (e : Event) (q : Option Request) (b : Part S) (r : ℕ → R) → Truly said (nth j b.windows) → Truly said (nth j (exchanged p e q b r).part.windows)
  exchanged_truly said e q b r h = exchanged-keeps (λ c. Truly said (nth j c.windows)) p e q b r h (λ i a m z. replied_truly said i (whose e a) a m b h)

  begun_truly : (said : List Word) (i : ℕ) (f : Option (Window S)) (w : World S R) → Truly said (nth j w.part.windows) → Truly (said ++ delivered_of p j i f w) (nth j (begun_by p.scripts i f w.part).windows)
  begun_truly said i None w h = same_truly said (nth j w.part.windows) h
  begun_truly said i (Some x) w h =
      acted_truly said j i x.site (act_of p.scripts x) (with_windows (change i (stepped p.scripts) w.part.windows) w.part)
      (change_truly said j i (stepped p.scripts) (λ y. left_truly said (is_silence y.own) y.words) w.part.windows h)

  happens_truly : (said : List Word) (e : Event) (w : World S R) → Truly said (nth j w.part.windows) → Truly (said ++ delivered_on p j w (Some e)) (nth j (happens p e w).part.windows)
  happens_truly said (Opening t l) w h = exchanged_truly (said ++ []) (Opening t l) (page_needed t l w.part) w.part w.servers (same_truly said (nth j w.part.windows) h)
  happens_truly said (TurnOf i) w h =
      exchanged_truly (said ++ delivered_on p j w (Some (TurnOf i))) (TurnOf i) (needs p.scripts (TurnOf i) w.part) (begun p.scripts (TurnOf i) w.part) w.servers (begun_truly said i (nth i w.part.windows) w h)

  step_truly : (said : List Word) (x : Run S R) (d : Option Due) → Truly said (nth j x.world.part.windows) → Truly (said ++ delivered_on p j x.world (event_by d)) (nth j (step_by p x d).world.part.windows)
  step_truly said x None h = same_truly said (nth j x.world.part.windows) h
  step_truly said x (Some d) h = happens_truly said d.event x.world h

module _ (S R : Type 0) where
  pub words_truly : WordsTruly S R
  unfolding nth
  words_truly p g r n j y e =
      subst (Truly (concat (trace (step p) (delivered_now p j) n (begin g r)))) e
      (history (step p) (delivered_now p j) (λ said x. Truly said (nth j x.world.part.windows)) (λ said x. step_truly p j said x (due_now x)) n [] (begin g r) refl)
