-- A chain of steps over servers in this process is the promise's run.
use Rattle.std.proofs.Common.{◌≡◌, ℕ, suc, Bool, true, List, [], ◌∷◌, ◌++◌, map, reverse, length, Some, None, Option, sym, refl, ap, ◌∙◌, subst, ⊎_elim}
use mathlib.Core.List.{reverse-cons, reverse-reverse}
use lib.ListN.{length-reverse}
use Rattle.std.proofs.lemmas.List.{map_push}
use Rattle.machine.specs.Script.{State}
use Rattle.pages.specs.Sites.{Bytes, Request, Sites}
use Rattle.pages.specs.Browser.{Part, World, Event, happens}
use Rattle.pages.specs.Outs.{reply_to, outs}
use Rattle.pages.specs.Runs.{Agenda, Run, due_now, event_by, event_now, step, step_by, after, trace, outs_now, outs_on}
use Rattle.pages.specs.Code.{turned, outs_with, moved}
use Rattle.pages.proofs.Term.{code_stands}
use Rattle.windows.specs.Scripts.{by_machine}
use Rattle.browser.specs.Whole.{reply_in}
use Rattle.browser.specs.Wire.{SiteTable}
use Rattle.servers.specs.Answering.{Exact}
use Rattle.book.specs.Records.{Entry}
use Rattle.runs.specs.Events.{asked, entry_for, Exchanged, Occurs}
use Rattle.runs.specs.Chains.{Reached, Moment, Step, Ran}
use Rattle.runs.specs.Exact.{Serving, sites_with, answer_to, entry_on, entry_now, RanExactly}
use Rattle.runs.proofs.Chaining.{reached_more}
use Rattle.runs.proofs.Moments.{iterate-end, trace-end, iterate-none, trace-none}

module _ {R C B : Type 0} (serving : Serving R) (room answer : ℕ) (table : SiteTable) (states : C → ℕ → R) (N : B → Entry → B → Type 0) where
  -- the sites
  abbrev p : Sites State R
  p = sites_with serving room answer table

  -- what the carrier may do
  abbrev pub G : C → ℕ → Bytes → Bytes → C → Type 0
  G c site request a d = Exact serving (states c) answer site request a (states d)

  -- the world of a moment
  abbrev pub world_at : Part State → C → World State R
  world_at b c = record { part = b; servers = states c }

  abbrev pub run_at : Moment C B → Run State R
  run_at x = record { world = world_at x.part x.carrier; agenda = x.agenda }

  exchanged-answer : (q : Option Request) (a : Bytes) (c d : C) → Exchanged G room table q a c d → a ≡ answer_to serving room answer table q (states c)
  exchanged-answer None a c d h = h.0
  exchanged-answer (Some q) a c d h = h.answered

  exchanged_states : (q : Option Request) (a : Bytes) (c d : C) → Exchanged G room table q a c d → states d ≡ moved p q (states c)
  exchanged_states None a c d h = ap states h.1
  exchanged_states (Some q) a c d h = h.moved

  reply_so : (q : Option Request) (r : ℕ → R) → reply_in table q (answer_to serving room answer table q r) ≡ reply_to p q r
  reply_so None r = refl
  reply_so (Some q) r = refl

  module _ (e : Event) (b b' : Part State) (c c' : C) (entry : Entry) (o : Occurs G room table e b c entry b' c') where
    answer_so : o.answer ≡ answer_to serving room answer table (asked table e b) (states c)
    answer_so = exchanged-answer (asked table e b) o.answer c c' o.exchange

    reply_is : reply_in table (asked table e b) o.answer ≡ reply_to p (asked table e b) (states c)
    reply_is = ap (reply_in table (asked table e b)) answer_so ∙ reply_so (asked table e b) (states c)

    pub world-after : world_at b' c' ≡ happens p e (world_at b c)
    world-after =
        ap {B = World State R} (λ z. record { part = z; servers = states c' }) (o.part ∙ ap (λ z. turned (by_machine (length table)) e z b) reply_is)
        ∙ ap {B = World State R} (λ z. record { part = turned (by_machine (length table)) e (reply_to p (asked table e b) (states c)) b; servers = z }) (exchanged_states (asked table e b) o.answer c c' o.exchange)
        ∙ sym ((code_stands State R p).does_so e b (states c))

    pub entry_so : entry ≡ entry_for table e (answer_to serving room answer table (asked table e b) (states c)) b
    entry_so = o.noted ∙ ap (λ z. entry_for table e z b) answer_so

    pub outs_so : entry.outs ≡ outs p e (world_at b c)
    outs_so = ap (λ z. z.outs) o.noted ∙ ap (λ z. outs_with (by_machine (length table)) e z b) reply_is ∙ sym ((code_stands State R p).lets_so e b (states c))

  module _ (x y : Moment C B) (entry : Entry) (s : Step G N room table x entry y) where
    pub run_step : run_at y ≡ step p (run_at x)
    run_step =
        ap {B = Run State R} (λ z. record { world = z; agenda = y.agenda }) (world-after s.now_due.event x.part y.part x.carrier y.carrier entry s.occurs)
        ∙ ap {B = Run State R} (λ z. record { world = happens p s.now_due.event (world_at x.part x.carrier); agenda = z }) s.left
        ∙ sym (ap (step_by p (run_at x)) s.is_due)

    pub entry_step : Some entry ≡ entry_now serving room answer table (run_at x)
    entry_step =
        ap Some (entry_so s.now_due.event x.part y.part x.carrier y.carrier entry s.occurs)
        ∙ sym (ap (entry_on serving room answer table (world_at x.part x.carrier)) s.is_due)

    pub outs-step : entry.outs ≡ outs_now p (run_at x)
    outs-step =
        outs_so s.now_due.event x.part y.part x.carrier y.carrier entry s.occurs
        ∙ sym (ap (λ z. outs_on p (world_at x.part x.carrier) (event_by z)) s.is_due)

    pub note_step : N x.book entry y.book
    note_step = s.noted

  -- a chain, entry by entry
  pub record Follows (x : Moment C B) (es : List Entry) (y : Moment C B) : Type 0 where
    pub run_so : run_at y ≡ after p (length es) (run_at x)
    pub told : map Some (reverse es) ≡ trace (step p) (entry_now serving room answer table) (length es) (run_at x)
    pub outs_so : map (λ e. e.outs) (reverse es) ≡ trace (step p) (outs_now p) (length es) (run_at x)
    pub noted : Reached N x.book es y.book

  -- one more at the end of what was seen
  seen_more : {O : Type 0} (see : Run State R → O) (f : Entry → O) (es : List Entry) (e : Entry) (x : Run State R) → map f (reverse es) ≡ trace (step p) see (length es) x → f e ≡ see (after p (length es) x) → map f (reverse (e ∷ es)) ≡ trace (step p) see (suc (length es)) x
  seen_more {O} see f es e x h k =
      ap (map f) (reverse-cons e es) ∙ map_push f (reverse es) e ∙ ap {B = List O} (λ z. z ++ (f e ∷ [])) h ∙ ap {B = List O} (λ z. trace (step p) see (length es) x ++ (z ∷ [])) k ∙ sym (trace-end (step p) see (length es) x)

  pub follows : (x : Moment C B) (es : List Entry) (y : Moment C B) → Reached (Step G N room table) x es y → Follows x es y
  unfolding Reached
  follows x [] y h = record {
    run_so = ap run_at h ∙ sym (iterate-none (step p) (run_at x));
    told = sym (trace-none (step p) (entry_now serving room answer table) (run_at x));
    outs_so = sym (trace-none (step p) (outs_now p) (run_at x));
    noted = ap (λ z. z.book) h;
  }
  follows x (e ∷ es) y h =
      let u = h.0 in
      let f = follows x es u h.1 in
      let s = h.2 in
      record {
        run_so = run_step u y e s ∙ ap (step p) f.run_so ∙ sym (iterate-end (step p) (length es) (run_at x));
        told = seen_more (entry_now serving room answer table) Some es e (run_at x) f.told (entry_step u y e s ∙ ap (entry_now serving room answer table) f.run_so);
        outs_so = seen_more (outs_now p) (λ z. z.outs) es e (run_at x) f.outs_so (outs-step u y e s ∙ ap (outs_now p) f.run_so);
        noted = reached_more N x.book u.book y.book es e f.noted (note_step u y e s);
      }

  -- a run that can't break down is over when nothing is to be done any more
  pub ran-exactly :
      (broken : C → Bool) → ((c : C) → broken c ≡ true → ⊥) → (b : Part State) (a : Agenda) (c : C) (k : B) (b' : Part State) (c' : C) (k' : B) →
      Ran G broken N room table (record { part = b; agenda = a; carrier = c; book = k }) b' c' k' →
      RanExactly serving room answer table N (record { world = world_at b c; agenda = a }) k (world_at b' c') k'
  ran-exactly broken never b a c k b' c' k' r =
      let x : Moment C B = record { part = b; agenda = a; carrier = c; book = k } in
      let y : Moment C B = record { part = b'; agenda = r.left; carrier = c'; book = k' } in
      let f = follows x r.entries y r.went in
      let n : length (reverse r.entries) ≡ length r.entries = length-reverse r.entries in
      let done : due_now (run_at y) ≡ None = ⊎_elim (λ h. h) (λ h. absurd (never c' h)) r.over in
      record {
        entries = reverse r.entries;
        told = f.told ∙ ap (λ z. trace (step p) (entry_now serving room answer table) z (run_at x)) (sym n);
        outs = f.outs_so ∙ ap (λ z. trace (step p) (outs_now p) z (run_at x)) (sym n);
        world_so = ap (λ z. z.world) f.run_so ∙ ap (λ z. (after p z (run_at x)).world) (sym n);
        over = ap (λ z. event_now (after p z (run_at x))) n ∙ ap event_now (sym f.run_so) ∙ ap event_by done;
        noted = subst (λ z. Reached N k z k') (sym (reverse-reverse r.entries)) f.noted;
      }
