-- What is let out in a turn, by whose window it is: what the group lets out, and what others do.
use Rattle.std.proofs.Common.{◌≡◌, ℕ, Bool, true, false, cond, not, ◌&&◌, ◌||◌, eqb, List, [], ◌∷◌, sym, refl, ap, ◌∙◌, eqb-true}
use mathlib.Core.Bool.{false≢true}
use Rattle.pages.specs.Sites.{Bytes, Act, Idle, Asks, Says, Keeps, Looks, Opens, Answer, Barred, Reply, Unreadable, Readable}
use Rattle.pages.specs.Browser.{Window, nth, answered}
use Rattle.pages.specs.Outs.{What, Asked, Said, Opened, Let, Out, out, is_of, let_by, outs_by, Group, reaches, by_others, keep_only, let_out}
use Rattle.pages.specs.Laws.{told_by}

-- what others see of an act of the group, as an act: all else that it does is for them as if it did nothing
abbrev pub shown_by : ℕ → What → Act
shown_by t (Asked h d) = Asks t h d
shown_by t (Said j d) = Says j t d
shown_by t (Opened h) = Opens t h
shown_by t (Let c d) = Idle

abbrev pub shown : List Out → Act
shown [] = Idle
shown (o ∷ os) = shown_by o.to o.what

-- what a page of another site is told of a reply is told by what is let out
pub answered_let : (s t : ℕ) (r : Reply) → eqb s t ≡ false → answered s t r ≡ told_by t (let_by t s r)
answered_let s t Unreadable n = refl
answered_let s t (Readable c d k lets) n = rw n (go (lets s))
  where
    go : (b : Bool) → cond b (Answer t c d) (Barred t) ≡ told_by t (cond b (out t s (Let c d) ∷ []) [])
    go true = refl
    go false = refl

nothing_if : (b : Bool) → ◌≡◌ {A = List Out} [] (cond b [] [])
nothing_if true = refl
nothing_if false = refl

unless : (b : Bool) (os : List Out) → cond (not b) os [] ≡ cond b [] os
unless true os = refl
unless false os = refl

-- what is kept of what a server lets out
keep_let : (f : Out → Bool) (t s : ℕ) (r : Reply) (b : Bool) → ((c : ℕ) (d : Bytes) → f (out t s (Let c d)) ≡ b) → keep_only f (let_by t s r) ≡ cond b (let_by t s r) []
unfolding keep_only
keep_let f t s Unreadable b e = nothing_if b
keep_let f t s (Readable c d k lets) b e = go (lets s)
  where
    go : (l : Bool) → keep_only f (cond l (out t s (Let c d) ∷ []) []) ≡ cond b (cond l (out t s (Let c d) ∷ []) []) []
    go true = ap (λ z. cond z (out t s (Let c d) ∷ []) []) (e c d)
    go false = nothing_if b

and-false : (a : Bool) → (a && false) ≡ false
and-false true = refl
and-false false = refl

and-true : (a : Bool) → (a && true) ≡ a
and-true true = refl
and-true false = refl

keep_none : (f : Out → Bool) (o : Out) (os : List Out) → f o ≡ false → keep_only f (o ∷ os) ≡ keep_only f os
unfolding keep_only
keep_none f o os e = rw e

keep_one : (f : Out → Bool) (o : Out) (os : List Out) → f o ≡ true → keep_only f (o ∷ os) ≡ o ∷ keep_only f os
unfolding keep_only
keep_one f o os e = rw e

keep_nil : (f : Out → Bool) → keep_only f [] ≡ []
unfolding keep_only
keep_nil f = refl

-- one thing that is let out, if a test says so
keep_if : (f : Out → Bool) (b e : Bool) (o : Out) → f o ≡ e → keep_only f (cond b (o ∷ []) []) ≡ cond (b && e) (o ∷ []) []
keep_if f true true o n = keep_one f o [] n ∙ ap (λ z. o ∷ z) (keep_nil f)
keep_if f true false o n = keep_none f o [] n ∙ keep_nil f
keep_if f false e o n = keep_nil f

module _ {S : Type 0} (h : Group) (ws : List (Window S)) (s : ℕ) where
  -- what the group lets out by an act of its own window
  abbrev pub visible : Act → List Out
  visible Idle = []
  visible (Asks t q d) = cond (h t) [] (out s t (Asked q d) ∷ [])
  visible (Says j t d) = cond (h t || not (is_of t (nth j ws))) [] (out s t (Said j d) ∷ [])
  visible (Keeps d) = []
  visible Looks = []
  visible (Opens t q) = out s t (Opened q) ∷ []

  -- and what others let out then
  abbrev pub back : Act → Reply → List Out
  back Idle r = []
  back (Asks t q d) r = cond (h t) [] (let_by t s r)
  back (Says j t d) r = []
  back (Keeps d) r = []
  back Looks r = []
  back (Opens t q) r = []

  module _ (m : h s ≡ true) where
    own-asks : (t : ℕ) (q d : Bytes) (r : Reply) (b : Bool) → eqb t s ≡ b → let_out h (cond b [] (out s t (Asked q d) ∷ let_by t s r)) ≡ cond (h t) [] (out s t (Asked q d) ∷ [])
    own-asks t q d r true e = keep_nil (reaches h) ∙ sym (rw (ap h (eqb-true t s e) ∙ m))
    own-asks t q d r false e = go (h t) refl
      where
        rest : keep_only (reaches h) (let_by t s r) ≡ []
        rest = keep_let (reaches h) t s r false (λ c b. ap (λ z. h t && (false || not z)) m ∙ and-false (h t))

        go : (g : Bool) → h t ≡ g → let_out h (out s t (Asked q d) ∷ let_by t s r) ≡ cond g [] (out s t (Asked q d) ∷ [])
        go true f = keep_none (reaches h) (out s t (Asked q d)) (let_by t s r) (rw (m, f)) ∙ rest
        go false f = keep_one (reaches h) (out s t (Asked q d)) (let_by t s r) (rw (m, f)) ∙ ap (λ z. out s t (Asked q d) ∷ z) rest

    own-says : (j t : ℕ) (d : Bytes) → let_out h (cond (not (eqb t s) && is_of t (nth j ws)) (out s t (Said j d) ∷ []) []) ≡ cond (h t || not (is_of t (nth j ws))) [] (out s t (Said j d) ∷ [])
    own-says j t d =
        keep_if (reaches h) (not (eqb t s) && is_of t (nth j ws)) (not (h t)) (out s t (Said j d)) (rw m) ∙ go (eqb t s) (h t) (is_of t (nth j ws)) (λ e. ap h (eqb-true t s e) ∙ m)
      where
        go : (a b c : Bool) → (a ≡ true → b ≡ true) → cond ((not a && c) && not b) (out s t (Said j d) ∷ []) [] ≡ cond (b || not c) [] (out s t (Said j d) ∷ [])
        go true true c e = refl
        go true false c e = absurd (false≢true (e refl))
        go false true true e = refl
        go false true false e = refl
        go false false true e = refl
        go false false false e = refl

    pub own-lets : (a : Act) (r : Reply) → let_out h (outs_by ws s a r) ≡ visible a
    own-lets Idle r = keep_nil (reaches h)
    own-lets (Asks t q d) r = own-asks t q d r (eqb t s) refl
    own-lets (Says j t d) r = own-says j t d
    own-lets (Keeps d) r = keep_nil (reaches h)
    own-lets Looks r = keep_nil (reaches h)
    own-lets (Opens t q) r = keep_one (reaches h) (out s t (Opened q)) [] (rw m) ∙ ap (λ z. out s t (Opened q) ∷ z) (keep_nil (reaches h))

    back_asks : (t : ℕ) (q d : Bytes) (r : Reply) (b : Bool) → eqb t s ≡ b → keep_only (by_others h) (cond b [] (out s t (Asked q d) ∷ let_by t s r)) ≡ cond (h t) [] (let_by t s r)
    back_asks t q d r true e = keep_nil (by_others h) ∙ sym (rw (ap h (eqb-true t s e) ∙ m))
    back_asks t q d r false e = keep_none (by_others h) (out s t (Asked q d)) (let_by t s r) (ap not m) ∙ keep_let (by_others h) t s r (not (h t)) (λ c b. refl) ∙ unless (h t) (let_by t s r)

    pub own_back : (a : Act) (r : Reply) → keep_only (by_others h) (outs_by ws s a r) ≡ back a r
    own_back Idle r = keep_nil (by_others h)
    own_back (Asks t q d) r = back_asks t q d r (eqb t s) refl
    own_back (Says j t d) r = keep_if (by_others h) (not (eqb t s) && is_of t (nth j ws)) false (out s t (Said j d)) (ap not m) ∙ rw and-false
    own_back (Keeps d) r = keep_nil (by_others h)
    own_back Looks r = keep_nil (by_others h)
    own_back (Opens t q) r = keep_none (by_others h) (out s t (Opened q)) [] (ap not m) ∙ keep_nil (by_others h)

  module _ (m : h s ≡ false) where
    -- what the group lets out in a turn of another's window
    abbrev pub given : Act → Reply → List Out
    given Idle r = []
    given (Asks t q d) r = cond (h t) (let_by t s r) []
    given (Says j t d) r = []
    given (Keeps d) r = []
    given Looks r = []
    given (Opens t q) r = []

    given_asks : (t : ℕ) (q d : Bytes) (r : Reply) (b : Bool) → eqb t s ≡ b → let_out h (cond b [] (out s t (Asked q d) ∷ let_by t s r)) ≡ cond (h t) (let_by t s r) []
    given_asks t q d r true e = keep_nil (reaches h) ∙ sym (rw (ap h (eqb-true t s e) ∙ m))
    given_asks t q d r false e = keep_none (reaches h) (out s t (Asked q d)) (let_by t s r) (rw m) ∙ keep_let (reaches h) t s r (h t) (λ c b. ap (λ z. h t && (false || not z)) m ∙ and-true (h t))

    pub other_lets : (a : Act) (r : Reply) → let_out h (outs_by ws s a r) ≡ given a r
    other_lets Idle r = keep_nil (reaches h)
    other_lets (Asks t q d) r = given_asks t q d r (eqb t s) refl
    other_lets (Says j t d) r = keep_if (reaches h) (not (eqb t s) && is_of t (nth j ws)) false (out s t (Said j d)) (rw m) ∙ rw and-false
    other_lets (Keeps d) r = keep_nil (reaches h)
    other_lets Looks r = keep_nil (reaches h)
    other_lets (Opens t q) r = keep_none (reaches h) (out s t (Opened q)) [] (rw m) ∙ keep_nil (reaches h)

    -- what others let out in it
    abbrev pub theirs : Act → Reply → List Out
    theirs Idle r = []
    theirs (Asks t q d) r = cond (eqb t s) [] (out s t (Asked q d) ∷ cond (h t) [] (let_by t s r))
    theirs (Says j t d) r = cond (not (eqb t s) && is_of t (nth j ws)) (out s t (Said j d) ∷ []) []
    theirs (Keeps d) r = []
    theirs Looks r = []
    theirs (Opens t q) r = out s t (Opened q) ∷ []

    theirs_asks : (t : ℕ) (q d : Bytes) (r : Reply) (b : Bool) → keep_only (by_others h) (cond b [] (out s t (Asked q d) ∷ let_by t s r)) ≡ cond b [] (out s t (Asked q d) ∷ cond (h t) [] (let_by t s r))
    theirs_asks t q d r true = keep_nil (by_others h)
    theirs_asks t q d r false =
        keep_one (by_others h) (out s t (Asked q d)) (let_by t s r) (ap not m)
        ∙ ap (λ z. out s t (Asked q d) ∷ z) (keep_let (by_others h) t s r (not (h t)) (λ c b. refl) ∙ unless (h t) (let_by t s r))

    pub other_theirs : (a : Act) (r : Reply) → keep_only (by_others h) (outs_by ws s a r) ≡ theirs a r
    other_theirs Idle r = keep_nil (by_others h)
    other_theirs (Asks t q d) r = theirs_asks t q d r (eqb t s)
    other_theirs (Says j t d) r = keep_if (by_others h) (not (eqb t s) && is_of t (nth j ws)) true (out s t (Said j d)) (ap not m) ∙ rw and-true
    other_theirs (Keeps d) r = keep_nil (by_others h)
    other_theirs Looks r = keep_nil (by_others h)
    other_theirs (Opens t q) r = keep_one (by_others h) (out s t (Opened q)) [] (ap not m) ∙ ap (λ z. out s t (Opened q) ∷ z) (keep_nil (by_others h))
