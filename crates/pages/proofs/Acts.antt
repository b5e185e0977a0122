-- What an act does to others: of a window of the group, what it shows; of any window in two worlds that are alike, the same.
use Rattle.std.proofs.Common.{◌≡◌, ℕ, Bool, true, false, cond, not, ◌&&◌, ◌||◌, eqb, ltb, List, [], ◌∷◌, length, Some, None, Option, sym, refl, ap, ◌∙◌, subst, true≢false, ne_eqb, eqb-true}
use mathlib.Core.Bool.{false≢true}
use Rattle.pages.specs.Sites.{Bytes, Act, Idle, Asks, Says, Keeps, Looks, Opens, Told, Begun, Kept, Request, Reply, Served, Sites}
use Rattle.pages.specs.Browser.{Word, Window, World, most_windows, at, nth, change, owns, hears, fresh, page_in, answered, token_after, needs_by, page_needed, exchanged, Event, Opening, TurnOf}
use Rattle.pages.specs.Outs.{Out, out, Asked, Said, is_of, let_by, outs_by, reply_to, Group, by_others, keep_only, let_out}
use Rattle.pages.specs.Promise.{Others, to_others}
use Rattle.pages.specs.Laws.{told_by}
use Rattle.pages.proofs.Places.{Sited, hears-site, hears-not, at_hidden, at_same}
use Rattle.pages.proofs.Same.{SameWindow, both_own, one_other, SameBut, none, pair, same_window, same_refl, same_join, same_length, same_change, same-done, hidden_change, SameFound, nobody, somebody, same_nth, same_site_lem}
use Rattle.pages.proofs.Close.{Close, close_refl, close_sym, close_trans, told_same}
use Rattle.pages.proofs.Turns.{does}
use Rattle.pages.proofs.Shown.{shown, answered_let, visible, back, own_back, theirs, other_theirs, other_lets}

module _ {S R : Type 0} where
  abbrev pub reply_done : Sites S R → ℕ → Act → World S R → Reply
  reply_done p s a w = reply_to p (needs_by s a w.part) w.servers

  abbrev pub outs_done : Sites S R → ℕ → Act → World S R → List Out
  outs_done p s a w = outs_by w.part.windows s a (reply_done p s a w)

-- what comes of something: the world, what is let out, and what a server is asked
pub record Result (S R : Type 0) : Type 0 where
  pub world : World S R
  pub outs : List Out
  pub request : Option Request

-- two results that are the same for all but the group
pub record SameResult {S R : Type 0} (h : Group) (x y : Result S R) : Type 0 where
  pub worlds : Close h x.world y.world
  pub outs : keep_only (by_others h) x.outs ≡ keep_only (by_others h) y.outs
  pub requests : to_others h x.request ≡ to_others h y.request

module _ {S R : Type 0} {h : Group} where
  pub result_sym : {x y : Result S R} → SameResult h x y → SameResult h y x
  result_sym r = record { worlds = close_sym r.worlds; outs = sym r.outs; requests = sym r.requests }

  pub result_trans : {x y z : Result S R} → SameResult h x y → SameResult h y z → SameResult h x z
  result_trans r q = record { worlds = close_trans r.worlds q.worlds; outs = r.outs ∙ q.outs; requests = r.requests ∙ q.requests }

module _ {S R : Type 0} where
  -- what comes of an act
  abbrev pub done : Sites S R → ℕ → ℕ → Act → World S R → Result S R
  done p i s a w = record { world = does p i s a w; outs = outs_done p s a w; request = needs_by s a w.part }

module _ {S R : Type 0} {h : Group} where
  -- ACTS OF THE GROUP'S OWN WINDOWS, one case for each act: what it does is for others what it shows
  module _ (p : Sites S R) (i s : ℕ) (w : World S R) (m : h s ≡ true) (at_i : Sited i s w.part.windows) where
    hide_told : (t : Told) → SameBut h (change i (owns t) w.part.windows) w.part.windows
    hide_told t = hidden_change i (owns t) w.part.windows (λ x d. both_own (ap h (at_i x d) ∙ m) refl)

    same_act : (a : Act) → SameResult h (done p i s a w) (done p i s a w)
    same_act a = record { worlds = close_refl _; outs = refl; requests = refl }

    -- nothing of it is to be seen
    unseen : (a : Act) → Close h (does p i s a w) w → keep_only (by_others h) (outs_done p s a w) ≡ [] → to_others h (needs_by s a w.part) ≡ None → SameResult h (done p i s a w) (done p i s Idle w)
    unseen a c o n = record { worlds = c; outs = o ∙ sym (own_back h w.part.windows s m Idle (reply_done p s Idle w)); requests = n }

    hide_asks : (t : ℕ) (q d : Bytes) (b : Bool) → h t ≡ b → SameResult h (done p i s (Asks t q d) w) (done p i s (shown (cond b [] (out s t (Asked q d) ∷ []))) w)
    hide_asks t q d false e = same_act (Asks t q d)
    hide_asks t q d true e =
        unseen (Asks t q d)
        (record { windows = hide_told _; tokens = at_hidden h t _ _ e; kept = λ z n. refl; servers = at_hidden h t _ _ e })
        (own_back h w.part.windows s m (Asks t q d) (reply_done p s (Asks t q d) w) ∙ rw e)
        (rw e)

    hide_says : (j t : ℕ) (d : Bytes) (b : Bool) → (h t || not (is_of t (nth j w.part.windows))) ≡ b → SameResult h (done p i s (Says j t d) w) (done p i s (shown (cond b [] (out s t (Said j d) ∷ []))) w)
    hide_says j t d false e = same_act (Says j t d)
    hide_says j t d true e =
        unseen (Says j t d)
        (record { windows = hidden_change j (hears t word) w.part.windows (λ x at_x. go x at_x (eqb x.site t) refl); tokens = λ z n. refl; kept = λ z n. refl; servers = λ z n. refl })
        (own_back h w.part.windows s m (Says j t d) (reply_done p s Idle w))
        refl
      where
        word : Word
        word = record { from = s; what = d }

        it_is : (a c : Bool) → c ≡ true → (a || not c) ≡ true → a ≡ true
        it_is true c f g = refl
        it_is false true f g = g
        it_is false false f g = f

        go : (x : Window S) → nth j w.part.windows ≡ Some x → (c : Bool) → eqb x.site t ≡ c → SameWindow h (hears t word x) x
        go x f false c = subst (λ z. SameWindow h z x) (sym (hears-not t word x c)) (same_window x)
        go x f true c =
            both_own
            (ap h (hears-site t word x ∙ eqb-true x.site t c) ∙ it_is (h t) (eqb x.site t) c (subst (λ z. (h t || not (is_of t z)) ≡ true) f e))
            (hears-site t word x)

    pub hide : (a : Act) → SameResult h (done p i s a w) (done p i s (shown (visible h w.part.windows s a)) w)
    hide Idle = same_act Idle
    hide (Asks t q d) = hide_asks t q d (h t) refl
    hide (Says j t d) = hide_says j t d (h t || not (is_of t (nth j w.part.windows))) refl
    hide (Keeps d) =
        unseen (Keeps d)
        (record { windows = same_refl w.part.windows; tokens = λ z n. refl; kept = at_hidden h s d w.part.kept m; servers = λ z n. refl })
        (own_back h w.part.windows s m (Keeps d) (reply_done p s Idle w))
        refl
    hide Looks =
        unseen Looks
        (record { windows = hide_told _; tokens = λ z n. refl; kept = λ z n. refl; servers = λ z n. refl })
        (own_back h w.part.windows s m Looks (reply_done p s Idle w))
        refl
    hide (Opens t q) = same_act (Opens t q)

  -- THE SAME ACT IN TWO WORLDS THAT ARE ALIKE, one case for each act, whosesoever window does it
  module _ {p q : Sites S R} (o : Others h p q) {w u : World S R} (r : Close h w u) where
    -- the same request, to a site outside the group
    asks_same : (t : ℕ) (from : Option ℕ) (l d : Bytes) → h t ≡ false →
        p.serve (record { site = t; from = from; token = w.part.tokens t; path = l; body = d }) (w.servers t) ≡ q.serve (record { site = t; from = from; token = u.part.tokens t; path = l; body = d }) (u.servers t)
    asks_same t from l d n =
        o.serve (record { site = t; from = from; token = w.part.tokens t; path = l; body = d }) (w.servers t) n
        ∙ ap (λ z. q.serve (record { site = t; from = from; token = z; path = l; body = d }) (w.servers t)) (r.tokens t n)
        ∙ ap (λ z. q.serve (record { site = t; from = from; token = u.part.tokens t; path = l; body = d }) z) (r.servers t n)

    request_same : (t : ℕ) (from : Option ℕ) (l d : Bytes) (b : Bool) → h t ≡ b →
        to_others h (Some (record { site = t; from = from; token = w.part.tokens t; path = l; body = d })) ≡ to_others h (Some (record { site = t; from = from; token = u.part.tokens t; path = l; body = d }))
    request_same t from l d true e = rw e
    request_same t from l d false e = ap (λ k. to_others h (Some (record { site = t; from = from; token = k; path = l; body = d }))) (r.tokens t e)

    token_same : (t : ℕ) (x y : Served R) → x ≡ y → h t ≡ false → token_after x.reply (w.part.tokens t) ≡ token_after y.reply (u.part.tokens t)
    token_same t x y e n = ap (λ z. token_after z.reply (w.part.tokens t)) e ∙ ap (token_after y.reply) (r.tokens t n)

    -- a server's reply is taken, and its state
    exchange_same : (t : ℕ) (x y : Served R) (xs ys : List (Window S)) → (h t ≡ false → x ≡ y) → SameBut h xs ys →
        Close h
        (record { part = record { windows = xs; tokens = at t (token_after x.reply (w.part.tokens t)) w.part.tokens; kept = w.part.kept }; servers = at t x.state w.servers })
        (record { part = record { windows = ys; tokens = at t (token_after y.reply (u.part.tokens t)) u.part.tokens; kept = u.part.kept }; servers = at t y.state u.servers })
    exchange_same t x y xs ys e s =
        record { windows = s; tokens = at_same h t _ _ _ _ (λ n. token_same t x y (e n) n) r.tokens; kept = r.kept; servers = at_same h t _ _ _ _ (λ n. ap (λ z. z.state) (e n)) r.servers }

    fresh_same : (t : ℕ) (l : Bytes) (x y : Served R) → (h t ≡ false → x ≡ y) → SameWindow h (fresh p.scripts t l x.reply) (fresh q.scripts t l y.reply)
    fresh_same t l x y e = go (h t) refl
      where
        go : (b : Bool) → h t ≡ b → SameWindow h (fresh p.scripts t l x.reply) (fresh q.scripts t l y.reply)
        go true c = both_own c refl
        go false c =
            subst (λ z. SameWindow h (fresh p.scripts t l x.reply) z)
            (ap {B = Window S} (λ z. record { site = t; state = z; own = Begun l; words = [] }) (o.begin t (page_in x.reply) c) ∙ ap {B = Window S} (λ z. fresh q.scripts t l z.reply) (e c))
            (one_other c)

    -- a page is opened, if there is room
    pub opened_same : (e : Event) (t : ℕ) (l : Bytes) (b c : Bool) → b ≡ c →
        Close h
        (exchanged p e (cond b (Some (record { site = t; from = None; token = w.part.tokens t; path = l; body = [] })) None) w.part w.servers)
        (exchanged q e (cond c (Some (record { site = t; from = None; token = u.part.tokens t; path = l; body = [] })) None) u.part u.servers)
    opened_same e t l true false d = absurd (true≢false d)
    opened_same e t l false true d = absurd (false≢true d)
    opened_same e t l false false d = r
    opened_same (Opening s k) t l true true d = exchange_same t _ _ _ _ (asks_same t None l []) (same_join r.windows (pair (fresh_same t l _ _ (asks_same t None l [])) none))
    opened_same (TurnOf i) t l true true d = exchange_same t _ _ _ _ (asks_same t None l []) (same_join r.windows (pair (fresh_same t l _ _ (asks_same t None l [])) none))

    room_same : ltb (length w.part.windows) most_windows ≡ ltb (length u.part.windows) most_windows
    room_same = ap (λ n. ltb n most_windows) (same_length r.windows)

    page_request : (t : ℕ) (l : Bytes) (b c : Bool) → b ≡ c →
        to_others h (cond b (Some (record { site = t; from = None; token = w.part.tokens t; path = l; body = [] })) None)
        ≡ to_others h (cond c (Some (record { site = t; from = None; token = u.part.tokens t; path = l; body = [] })) None)
    page_request t l true true d = request_same t None l [] (h t) refl
    page_request t l false false d = refl
    page_request t l true false d = absurd (true≢false d)
    page_request t l false true d = absurd (false≢true d)

    -- what a page of another site is told of an asking, if the group lets out the same
    told-by-out :
        (s t : ℕ) (x y : Reply) → h s ≡ false → (b : Bool) → h t ≡ b → (b ≡ false → x ≡ y) → cond b (let_by t s x) [] ≡ cond b (let_by t s y) [] → answered s t x ≡ answered s t y
    told-by-out s t x y n false c e d = ap (answered s t) (e refl)
    told-by-out s t x y n true c e d =
        let apart : eqb s t ≡ false = ne_eqb s t (λ z. true≢false (sym c ∙ ap h (sym z) ∙ n)) in
        answered_let s t x apart ∙ ap (told_by t) d ∙ sym (answered_let s t y apart)

    is_of_same : (t : ℕ) (f g : Option (Window S)) → SameFound h f g → is_of t f ≡ is_of t g
    is_of_same t f g nobody = refl
    is_of_same t f g (somebody z) = ap (λ s. eqb s t) (same_site_lem z)

    -- what is let out by others is the same
    theirs_same : (s t : ℕ) (x y : Reply) → (b : Bool) → h t ≡ b → (b ≡ false → x ≡ y) → cond b [] (let_by t s x) ≡ cond b [] (let_by t s y)
    theirs_same s t x y true c e = refl
    theirs_same s t x y false c e = ap (let_by t s) (e refl)

    outs_same : (s : ℕ) (a : Act) → keep_only (by_others h) (outs_done p s a w) ≡ keep_only (by_others h) (outs_done q s a u)
    outs_same s a = go (h s) refl
      where
        same : (t : ℕ) (l d : Bytes) → cond (h t) [] (let_by t s (reply_done p s (Asks t l d) w)) ≡ cond (h t) [] (let_by t s (reply_done q s (Asks t l d) u))
        same t l d = theirs_same s t _ _ (h t) refl (λ c. ap (λ z. z.reply) (asks_same t (Some s) l d c))

        backs : (a : Act) → back h w.part.windows s a (reply_done p s a w) ≡ back h u.part.windows s a (reply_done q s a u)
        backs Idle = refl
        backs (Asks t l d) = same t l d
        backs (Says j t d) = refl
        backs (Keeps d) = refl
        backs Looks = refl
        backs (Opens t l) = refl

        theirses : (m : h s ≡ false) (a : Act) → theirs h w.part.windows s m a (reply_done p s a w) ≡ theirs h u.part.windows s m a (reply_done q s a u)
        theirses m Idle = refl
        theirses m (Asks t l d) = ap (λ z. cond (eqb t s) [] (out s t (Asked l d) ∷ z)) (same t l d)
        theirses m (Says j t d) = ap (λ z. cond (not (eqb t s) && z) (out s t (Said j d) ∷ []) []) (is_of_same t _ _ (same_nth j r.windows))
        theirses m (Keeps d) = refl
        theirses m Looks = refl
        theirses m (Opens t l) = refl

        go : (b : Bool) → h s ≡ b → keep_only (by_others h) (outs_done p s a w) ≡ keep_only (by_others h) (outs_done q s a u)
        go true m = own_back h w.part.windows s m a (reply_done p s a w) ∙ backs a ∙ sym (own_back h u.part.windows s m a (reply_done q s a u))
        go false m = other_theirs h w.part.windows s m a (reply_done p s a w) ∙ theirses m a ∙ sym (other_theirs h u.part.windows s m a (reply_done q s a u))

    worlds_same : (i s : ℕ) (a : Act) → Sited i s w.part.windows → (h s ≡ false → let_out h (outs_done p s a w) ≡ let_out h (outs_done q s a u)) → Close h (does p i s a w) (does q i s a u)
    worlds_same i s Idle m e = r
    worlds_same i s (Asks t l d) m e =
        exchange_same t _ _ _ _ (asks_same t (Some s) l d)
        (told_same i s _ _ r m (λ n. told-by-out s t _ _ n (h t) refl (λ c. ap (λ z. z.reply) (asks_same t (Some s) l d c)) (sym (other_lets h w.part.windows s n (Asks t l d) (reply_done p s (Asks t l d) w)) ∙ e n ∙ other_lets h u.part.windows s n (Asks t l d) (reply_done q s (Asks t l d) u))))
    worlds_same i s (Says j t d) m e =
        let f : Window S → Window S = hears t (record { from = s; what = d }) in
        let keeps : (x : Window S) → (f x).site ≡ x.site = hears-site t (record { from = s; what = d }) in
        record { windows = same_change j f f (λ x y c b z. same-done f f keeps keeps x y (λ n. refl) z) r.windows; tokens = r.tokens; kept = r.kept; servers = r.servers }
    worlds_same i s (Keeps d) m e = record { windows = r.windows; tokens = r.tokens; kept = at_same h s d d _ _ (λ n. refl) r.kept; servers = r.servers }
    worlds_same i s Looks m e = record { windows = told_same i s _ _ r m (λ n. ap Kept (r.kept s n)); tokens = r.tokens; kept = r.kept; servers = r.servers }
    worlds_same i s (Opens t l) m e = opened_same (TurnOf i) t l _ _ room_same

    requests_same : (s : ℕ) (a : Act) → to_others h (needs_by s a w.part) ≡ to_others h (needs_by s a u.part)
    requests_same s Idle = refl
    requests_same s (Asks t l d) = request_same t (Some s) l d (h t) refl
    requests_same s (Says j t d) = refl
    requests_same s (Keeps d) = refl
    requests_same s Looks = refl
    requests_same s (Opens t l) = page_request t l _ _ room_same

    pub does_same : (i s : ℕ) (a : Act) → Sited i s w.part.windows → (h s ≡ false → let_out h (outs_done p s a w) ≡ let_out h (outs_done q s a u)) → SameResult h (done p i s a w) (done q i s a u)
    does_same i s a m e = record { worlds = worlds_same i s a m e; outs = outs_same s a; requests = requests_same s a }

    pub page_same : (t : ℕ) (l : Bytes) → to_others h (page_needed t l w.part) ≡ to_others h (page_needed t l u.part)
    page_same t l = page_request t l _ _ room_same

    pub opening_same : (t : ℕ) (l : Bytes) → Close h (exchanged p (Opening t l) (page_needed t l w.part) w.part w.servers) (exchanged q (Opening t l) (page_needed t l u.part) u.part u.servers)
    opening_same t l = opened_same (Opening t l) t l _ _ room_same
