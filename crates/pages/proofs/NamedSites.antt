-- Every window is of a numbered site, and no other server is asked.
use Rattle.std.proofs.Common.{◌≡◌, ℕ, zero, suc, ◌<◌, Bool, true, false, cond, ltb, List, [], ◌∷◌, length, Some, None, Option, sym, refl, subst, ltb-true}
use Rattle.pages.specs.Sites.{Bytes, Act, Idle, Asks, Says, Keeps, Looks, Opens, Scripts, Sites}
use Rattle.pages.specs.Browser.{Word, Window, Part, World, most_windows, nth, named, act_of, hears, page_needed, needs_by, needs_of, needs, happens, Event, Opening, TurnOf}
use Rattle.pages.specs.Runs.{Open, Line, Turn, Rounds, Due, Run, line_due, due_by, due_now, event_by, step_by, step, after, begin, request_on}
use Rattle.pages.specs.Laws.{Every, NamedRequest, OnlyNamed}
use Rattle.pages.proofs.Places.{hears-site}
use Rattle.pages.proofs.Invariants.{always, every_happens}

abbrev NamedAct : ℕ → Act → Type 0
NamedAct n Idle = Unit {0}
NamedAct n (Asks t h d) = t < n
NamedAct n (Says j t d) = t < n
NamedAct n (Keeps d) = Unit {0}
NamedAct n Looks = Unit {0}
NamedAct n (Opens t h) = t < n

abbrev NamedEvent : ℕ → Event → Type 0
NamedEvent n (Opening t h) = t < n
NamedEvent n (TurnOf i) = Unit {0}

abbrev NamedOpens : ℕ → List Open → Type 0
NamedOpens n = Every (λ o. o.site < n)

abbrev NamedDue : ℕ → Option Due → Type 0
NamedDue n None = Unit {0}
NamedDue n (Some d) = NamedEvent n d.event × NamedOpens n d.rest.opens

-- an act that names a site with a number, or none
named-or_idle : (n t : ℕ) (a : Act) → (t < n → NamedAct n a) → NamedAct n (cond (ltb t n) a Idle)
named-or_idle n t a k = go (ltb t n) refl
  where
    go : (z : Bool) → ltb t n ≡ z → NamedAct n (cond z a Idle)
    go true e = k (ltb-true t n e)
    go false e = tt

act-named : (n : ℕ) (a : Act) → NamedAct n (named n a)
act-named n Idle = tt
act-named n (Asks t h d) = named-or_idle n t (Asks t h d) (λ e. e)
act-named n (Says j t d) = named-or_idle n t (Says j t d) (λ e. e)
act-named n (Keeps d) = tt
act-named n Looks = tt
act-named n (Opens t h) = named-or_idle n t (Opens t h) (λ e. e)

-- turns are had once all is opened
line_named : (n m : ℕ) (ls : List Line) → NamedDue n (line_due m ls)
unfolding line_due Every
line_named n m [] = tt
line_named n m (Turn i ∷ ls) = (tt, tt)
line_named n m (Rounds zero ∷ ls) = line_named n m ls
line_named n zero (Rounds (suc k) ∷ ls) = line_named n zero ls
line_named n (suc m) (Rounds (suc k) ∷ ls) = (tt, tt)

due-named : (n m : ℕ) (os : List Open) (is : List ℕ) (ls : List Line) → NamedOpens n os → NamedDue n (due_by m os is ls)
unfolding Every
due-named n m [] [] ls h = line_named n m ls
due-named n m [] (i ∷ is) ls h = (tt, tt)
due-named n m (o ∷ os) is ls h = h

module _ {S : Type 0} where
  page_named : (n t : ℕ) (h : Bytes) (b : Part S) → t < n → NamedRequest n (page_needed t h b)
  page_named n t h b k = go (ltb (length b.windows) most_windows)
    where
      go : (z : Bool) → NamedRequest n (cond z (Some (record { site = t; from = None; token = b.tokens t; path = h; body = [] })) None)
      go true = k
      go false = tt

  needs_by-named : (n s : ℕ) (a : Act) (b : Part S) → NamedAct n a → NamedRequest n (needs_by s a b)
  needs_by-named n s Idle b k = tt
  needs_by-named n s (Asks t h d) b k = k
  needs_by-named n s (Says j t d) b k = tt
  needs_by-named n s (Keeps d) b k = tt
  needs_by-named n s Looks b k = tt
  needs_by-named n s (Opens t h) b k = page_named n t h b k

  needs_of-named : (c : Scripts S) (f : Option (Window S)) (b : Part S) → NamedRequest c.sites (needs_of c f b)
  needs_of-named c None b = tt
  needs_of-named c (Some x) b = needs_by-named c.sites x.site (act_of c x) b (act-named c.sites _)

  needs-named : (c : Scripts S) (e : Event) (b : Part S) → NamedEvent c.sites e → NamedRequest c.sites (needs c e b)
  needs-named c (Opening t h) b k = page_named c.sites t h b k
  needs-named c (TurnOf i) b k = needs_of-named c (nth i b.windows) b

  -- a word leaves a window its site
  hears-named : (n t : ℕ) (m : Word) (x : Window S) → x.site < n → (hears t m x).site < n
  hears-named n t m x h = subst (λ s. s < n) (sym (hears-site t m x)) h

module _ {S R : Type 0} (p : Sites S R) where
  abbrev Named : Run S R → Type 0
  Named x = Every (λ y. y.site < p.scripts.sites) x.world.part.windows × NamedOpens p.scripts.sites x.agenda.opens

  happens-named : (e : Event) (w : World S R) → NamedEvent p.scripts.sites e → Every (λ y. y.site < p.scripts.sites) w.part.windows → Every (λ y. y.site < p.scripts.sites) (happens p e w).part.windows
  happens-named e w k h =
      every_happens (λ y. y.site < p.scripts.sites) p (λ y l. l) (λ m y l. l) (hears-named p.scripts.sites) e w
      (λ a r q. subst (NamedRequest p.scripts.sites) q (needs-named p.scripts e w.part k)) h

  step-named : (x : Run S R) (d : Option Due) → NamedDue p.scripts.sites d → Named x → Named (step_by p x d)
  step-named x None k h = h
  step-named x (Some d) k h = (happens-named d.event x.world k.0 h.0, k.1)

  due_now-named : (x : Run S R) → Named x → NamedDue p.scripts.sites (due_now x)
  due_now-named x h = due-named p.scripts.sites (length x.world.part.windows) x.agenda.opens x.agenda.round x.agenda.lines h.1

  request-named : (w : World S R) (d : Option Due) → NamedDue p.scripts.sites d → NamedRequest p.scripts.sites (request_on p w (event_by d))
  request-named w None k = tt
  request-named w (Some d) k = needs-named p.scripts d.event w.part k.0

module _ (S R : Type 0) where
  pub only-named : OnlyNamed S R
  unfolding Every
  only-named p g r n h =
      let x : Run S R = after p n (begin g r) in
      let k : Named p x = always (Named p) (step p) (λ y l. step-named p y (due_now y) (due_now-named p y l) l) n (begin g r) (tt, h) in
      (k.0, request-named p x.world (due_now x) (due_now-named p x k))
