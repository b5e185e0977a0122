-- What a turn makes of each window, and what follows for askings, words, openings and lookings.
use Rattle.std.proofs.Common.{◌≡◌, ℕ, ◌≤◌, Bool, true, false, cond, ◌&&◌, ◌||◌, eqb, ltb, ◌⊎◌, List, [], length, Some, None, Option, sym, refl, ap, ◌∙◌, subst, inl, inr, le-ltb, lt-ltb, eq-eqb, ne_eqb, eqb-true}
use borrow.Author.Tests.{eqb-false}
use Rattle.pages.specs.Sites.{Bytes, Act, Idle, Asks, Says, Keeps, Looks, Opens, Answer, Barred, Kept, Request, Readable, Sites}
use Rattle.pages.specs.Browser.{Word, Window, Part, World, most_windows, most_words, nth, change, words_left, act_of, stepped, owns, joined, hears, answered, page_needed, needs_by, needs_of, exchanged, happens, TurnOf}
use Rattle.pages.specs.Laws.{asking, fetching, ran, becomes, EachWindow, ToldNext, SeesOwn, WordToOneself, NinthWord, OpensWindow, LooksFinds, Readings}
use Rattle.pages.proofs.Places.{nth-change, nth-change_other, nth-join, change-length}
use Rattle.pages.proofs.Turns.{after_run, does, turn_is}

nth_changed : {A : Type 0} (i j : ℕ) (f : A → A) (xs : List A) (y : A) → nth j xs ≡ Some y → nth j (change i f xs) ≡ Some (cond (eqb j i) (f y) y)
nth_changed {A} i j f xs y e = go (eqb j i) refl
  where
    go : (b : Bool) → eqb j i ≡ b → nth j (change i f xs) ≡ Some (cond b (f y) y)
    go true d = subst (λ z. nth j (change z f xs) ≡ Some (f y)) (eqb-true j i d) (nth-change j f xs y e)
    go false d = nth-change_other i j f xs (λ c. eqb-false j i d (sym c)) ∙ e

module _ {S R : Type 0} where
  -- what an act of window i, of site s, makes of window j, one case for each act
  act-becomes :
      (p : Sites S R) (i s j : ℕ) (w : World S R) (y : Window S) (a : Act) → nth j w.part.windows ≡ Some y →
      nth j (does p i s a w).part.windows ≡ Some (becomes p w i s a j y)
  act-becomes p i s j w y Idle e = e
  act-becomes p i s j w y (Asks t h d) e = nth_changed i j (owns (answered s t (p.serve (asking w s t h d) (w.servers t)).reply)) w.part.windows y e
  act-becomes p i s j w y (Says l t d) e = nth_changed l j (hears t (record { from = s; what = d })) w.part.windows y e
  act-becomes p i s j w y (Keeps d) e = e
  act-becomes p i s j w y Looks e = nth_changed i j (owns (Kept (w.part.kept s))) w.part.windows y e
  act-becomes p i s j w y (Opens t h) e = go (ltb (length w.part.windows) most_windows)
    where
      go : (b : Bool) → nth j (exchanged p (TurnOf i) (cond b (Some (fetching w t h)) None) w.part w.servers).part.windows ≡ Some y
      go true = nth-join j w.part.windows _ y e
      go false = e

  -- and a turn with this act: becomes looks at tokens, servers and what is kept, which a script's run leaves
  turn-becomes :
      (p : Sites S R) (w : World S R) (i j : ℕ) (x y : Window S) → nth i w.part.windows ≡ Some x → nth j w.part.windows ≡ Some y → (a : Act) → act_of p.scripts x ≡ a →
      nth j (happens p (TurnOf i) w).part.windows ≡ Some (becomes p w i x.site a j (ran p i j y))
  turn-becomes p w i j x y at_x at_y a e =
      ap (λ u. nth j u.part.windows) (turn_is p i x w at_x a e)
      ∙ act-becomes p i x.site j (after_run p i w) (ran p i j y) a (nth_changed i j (stepped p.scripts) w.part.windows y at_y)
      ∙ ap {B = Option (Window S)} Some (same a)
    where
      same : (a : Act) → becomes p (after_run p i w) i x.site a j (ran p i j y) ≡ becomes p w i x.site a j (ran p i j y)
      same Idle = refl
      same (Asks t h d) = refl
      same (Says l t d) = refl
      same (Keeps d) = refl
      same Looks = refl
      same (Opens t h) = refl

module _ (S R : Type 0) where
  pub each_window : EachWindow S R
  each_window p w i j x y at_x at_y = turn-becomes p w i j x y at_x at_y (act_of p.scripts x) refl

  pub told_next : ToldNext S R
  told_next x = (λ e. (rw e, rw e), λ m ms e d. (rw (e, d), rw (e, d)))

  -- the window whose turn it is, by its act
  own-window :
      (p : Sites S R) (w : World S R) (i : ℕ) (x : Window S) → nth i w.part.windows ≡ Some x → (a : Act) → act_of p.scripts x ≡ a → (y : Window S) →
      becomes p w i x.site a i (stepped p.scripts x) ≡ y → nth i (happens p (TurnOf i) w).part.windows ≡ Some y
  own-window p w i x at_x a e y d =
      turn-becomes p w i i x x at_x at_x a e
      ∙ ap {B = Option (Window S)} (λ b. Some (becomes p w i x.site a i (cond b (stepped p.scripts x) x))) (eq-eqb i i refl)
      ∙ ap {B = Option (Window S)} Some d

  -- a reply that can be read is seen, if one of the two reasons is there
  seen : (s t c : ℕ) (b : Bytes) (k : Option Bytes) (lets : ℕ → Bool) → (s ≡ t) ⊎ (lets s ≡ true) → answered s t (Readable c b k lets) ≡ Answer t c b
  seen s t c b k lets (inl e) = rw (eq-eqb s t e)
  seen s t c b k lets (inr e) = go (eqb s t)
    where
      go : (f : Bool) → cond (f || lets s) (Answer t c b) (Barred t) ≡ Answer t c b
      go true = refl
      go false = rw e

  pub sees_own : SeesOwn S R
  sees_own p w i x t h d c b k lets at_x e r why =
      own-window p w i x at_x (Asks t h d) e (owns (Answer t c b) (stepped p.scripts x))
      (rw (eq-eqb i i refl) (ap {B = Window S} (λ m. owns m (stepped p.scripts x)) (ap (answered x.site t) r ∙ seen x.site t c b k lets why)))

  pub looks_finds : LooksFinds S R
  looks_finds p w i x at_x e = own-window p w i x at_x Looks e (owns (Kept (w.part.kept x.site)) (stepped p.scripts x)) (rw (eq-eqb i i refl))

  pub word_to_oneself : WordToOneself S R
  word_to_oneself p w i x d at_x e room =
      own-window p w i x at_x (Says i x.site d) e (joined (record { from = x.site; what = d }) (stepped p.scripts x))
      (rw (eq-eqb i i refl, eq-eqb x.site x.site refl, lt-ltb (length (words_left x)) most_words room))

  full : (t : ℕ) (m : Word) (y : Window S) → 8 ≤ length y.words → hears t m y ≡ y
  full t m y l = rw (le-ltb (length y.words) most_words l) (go (eqb y.site t))
    where
      go : (b : Bool) → cond (b && false) (joined m y) y ≡ y
      go true = refl
      go false = refl

  pub ninth_word : NinthWord S R
  ninth_word p w i j x y t d at_x at_y n e l =
      turn-becomes p w i j x y at_x at_y (Says j t d) e
      ∙ ap {B = Option (Window S)} (λ b. Some (becomes p w i x.site (Says j t d) j (cond b (stepped p.scripts y) y))) (ne_eqb j i n)
      ∙ ap {B = Option (Window S)} (λ b. Some (cond b (hears t (record { from = x.site; what = d }) y) y)) (eq-eqb j j refl)
      ∙ ap {B = Option (Window S)} Some (full t (record { from = x.site; what = d }) y l)

  -- a page is asked for, or not, as there is room
  needed : (t : ℕ) (h : Bytes) (b : Part S) (room : Bool) → ltb (length b.windows) most_windows ≡ room → page_needed t h b ≡ cond room (Some (record { site = t; from = None; token = b.tokens t; path = h; body = [] })) None
  needed t h b room e = ap {B = Option Request} (λ c. cond c (Some (record { site = t; from = None; token = b.tokens t; path = h; body = [] })) None) e

  turn-opens :
      (p : Sites S R) (w : World S R) (i : ℕ) (x : Window S) (t : ℕ) (h : Bytes) → nth i w.part.windows ≡ Some x → act_of p.scripts x ≡ Opens t h → (room : Bool) → ltb (length w.part.windows) most_windows ≡ room →
      happens p (TurnOf i) w ≡ exchanged p (TurnOf i) (cond room (Some (fetching w t h)) None) (after_run p i w).part w.servers
  turn-opens p w i x t h at_x e room r =
      turn_is p i x w at_x (Opens t h) e
      ∙ ap (λ q. exchanged p (TurnOf i) q (after_run p i w).part w.servers)
      (needed t h (after_run p i w).part room (ap (λ n. ltb n most_windows) (change-length i (stepped p.scripts) w.part.windows) ∙ r))

  pub opens_window : OpensWindow S R
  opens_window p w i x t h at_x e = (
    λ l. turn-opens p w i x t h at_x e true (lt-ltb (length w.part.windows) most_windows l),
    λ l. let full-up : ltb (length w.part.windows) most_windows ≡ false = le-ltb (length w.part.windows) most_windows l in
        (ap (λ f. needs_of p.scripts f w.part) at_x ∙ ap (λ a. needs_by x.site a w.part) e ∙ needed t h w.part false full-up, turn-opens p w i x t h at_x e false full-up),
  )

  pub readings : Readings S R
  readings = record { told_next = told_next; sees_own = sees_own; word_to_oneself = word_to_oneself; ninth_word = ninth_word; opens_window = opens_window; looks_finds = looks_finds }
