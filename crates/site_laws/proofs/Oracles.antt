-- A chain of events is a run with servers that give just its answers.
use Rattle.std.proofs.Common.{◌≡◌, ℕ, Bool, true, false, cond, eqb, List, [], ◌∷◌, ◌++◌, map, reverse, length, Some, None, Option, sym, refl, ap, ◌∙◌, eq-eqb, eqb-true}
use mathlib.Core.List.{reverse-cons}
use Rattle.std.proofs.lemmas.List.{map_push}
use Rattle.std.proofs.lemmas.Bool.{cond-true}
use Rattle.machine.specs.Script.{State}
use Rattle.pages.specs.Sites.{Bytes, Request, Sites}
use Rattle.pages.specs.Browser.{World, Event, at, happens}
use Rattle.pages.specs.Outs.{Out, reply_to}
use Rattle.pages.specs.Runs.{Run, event_by, step, step_by, after, trace, outs_now, outs_on}
use Rattle.pages.specs.Code.{turned, outs_with, moved}
use Rattle.pages.proofs.Term.{code_stands}
use Rattle.windows.specs.Scripts.{by_machine}
use Rattle.browser.specs.Whole.{reply_in}
use Rattle.browser.specs.Wire.{SiteTable, kind_for, reply_of}
use Rattle.book.specs.Records.{Entry}
use Rattle.runs.specs.Events.{asked}
use Rattle.runs.specs.Chains.{Reached, Moment, Step}
use Rattle.runs.proofs.Moments.{iterate-end, trace-end, iterate-none, trace-none}
use Rattle.site_laws.specs.Oracle.{listed, listed_sites, run_with, AnsweredBySome}

module _ (table : SiteTable) where
  abbrev p : Sites State (List Bytes)
  p = listed_sites table

  -- one answer more is still to be given, if a server is asked
  abbrev before : Option Request → Bytes → (ℕ → List Bytes) → ℕ → List Bytes
  before None a r = r
  before (Some q) a r = at q.site (a ∷ r q.site) r

  here : (q : Request) (a : Bytes) (r : ℕ → List Bytes) → before (Some q) a r q.site ≡ a ∷ r q.site
  here q a r = cond-true (eqb q.site q.site) (a ∷ r q.site) (r q.site) (eq-eqb q.site q.site refl)

  reply_so : (q : Option Request) (a : Bytes) (r : ℕ → List Bytes) → reply_to p q (before q a r) ≡ reply_in table q a
  reply_so None a r = refl
  reply_so (Some q) a r = ap (λ z. reply_of table (kind_for q.from) (listed q z).0) (here q a r)

  -- the asked server's answers are those that are left, and no other's change
  given : (q : Request) (a : Bytes) (r : ℕ → List Bytes) (s : ℕ) (b : Bool) → eqb s q.site ≡ b → cond b (listed q (before (Some q) a r q.site)).1 (cond b (a ∷ r q.site) (r s)) ≡ r s
  given q a r s true e = ap (λ z. (listed q z).1) (here q a r) ∙ ap r (sym (eqb-true s q.site e))
  given q a r s false e = refl

  moved_so : (q : Option Request) (a : Bytes) (r : ℕ → List Bytes) → moved p q (before q a r) ≡ r
  moved_so None a r = refl
  moved_so (Some q) a r = λ i. λ s. given q a r s (eqb s q.site) refl i

  module _ {C B : Type 0} (G : C → ℕ → Bytes → Bytes → C → Type 0) (N : B → Entry → B → Type 0) (room : ℕ) where
    module _ (x y : Moment C B) (entry : Entry) (s : Step G N room table x entry y) (r : ℕ → List Bytes) where
      abbrev e : Event
      e = s.now_due.event

      abbrev q : Option Request
      q = asked table e x.part

      abbrev first : ℕ → List Bytes
      first = before q s.occurs.answer r

      world_so : happens p e (record { part = x.part; servers = first }) ≡ record { part = y.part; servers = r }
      world_so =
          (code_stands State (List Bytes) p).does_so e x.part first
          ∙ ap {B = World State (List Bytes)} (λ z. record { part = turned (by_machine (length table)) e z x.part; servers = moved p q first }) (reply_so q s.occurs.answer r)
          ∙ ap {B = World State (List Bytes)} (λ z. record { part = z; servers = moved p q first }) (sym s.occurs.part)
          ∙ ap {B = World State (List Bytes)} (λ z. record { part = y.part; servers = z }) (moved_so q s.occurs.answer r)

      step_so : step p (run_with x.part x.agenda first) ≡ run_with y.part y.agenda r
      step_so =
          ap (step_by p (run_with x.part x.agenda first)) s.is_due
          ∙ ap {B = Run State (List Bytes)} (λ z. record { world = z; agenda = s.now_due.rest }) world_so
          ∙ ap {B = Run State (List Bytes)} (λ z. record { world = record { part = y.part; servers = r }; agenda = z }) (sym s.left)

      lets_so : entry.outs ≡ outs_now p (run_with x.part x.agenda first)
      lets_so =
          ap (λ z. z.outs) s.occurs.noted
          ∙ ap (λ z. outs_with (by_machine (length table)) e z x.part) (sym (reply_so q s.occurs.answer r))
          ∙ sym ((code_stands State (List Bytes) p).lets_so e x.part first)
          ∙ sym (ap (λ z. outs_on p (record { part = x.part; servers = first }) (event_by z)) s.is_due)

    -- a chain, with answers left over for what comes after it
    record Chain (x : Moment C B) (es : List Entry) (y : Moment C B) (rest : ℕ → List Bytes) : Type 0 where
      answers : ℕ → List Bytes
      run_so : after p (length es) (run_with x.part x.agenda answers) ≡ run_with y.part y.agenda rest
      outs_so : map (λ z. z.outs) (reverse es) ≡ trace (step p) (outs_now p) (length es) (run_with x.part x.agenda answers)

    chain : (x : Moment C B) (es : List Entry) (y : Moment C B) → Reached (Step G N room table) x es y → (rest : ℕ → List Bytes) → Chain x es y rest
    unfolding Reached
    chain x [] y h rest = record {
      answers = rest;
      run_so = iterate-none (step p) (run_with x.part x.agenda rest) ∙ ap (λ z. run_with z.part z.agenda rest) (sym h);
      outs_so = sym (trace-none (step p) (outs_now p) (run_with x.part x.agenda rest));
    }
    chain x (e ∷ es) y h rest =
        let u = h.0 in
        let s = h.2 in
        let c = chain x es u h.1 (first u y e s rest) in
        let z : Run State (List Bytes) = run_with x.part x.agenda c.answers in
        let lets : e.outs ≡ outs_now p (after p (length es) z) = lets_so u y e s rest ∙ ap (outs_now p) (sym c.run_so) in
        record {
          answers = c.answers;
          run_so = iterate-end (step p) (length es) z ∙ ap (step p) c.run_so ∙ step_so u y e s rest;
          outs_so =
              ap (map (λ w. w.outs)) (reverse-cons e es) ∙ map_push (λ w. w.outs) (reverse es) e
              ∙ ap {B = List (List Out)} (λ w. w ++ (e.outs ∷ [])) c.outs_so
              ∙ ap {B = List (List Out)} (λ w. trace (step p) (outs_now p) (length es) z ++ (w ∷ [])) lets
              ∙ sym (trace-end (step p) (outs_now p) (length es) z);
        }

pub answered_by_some : {C B : Type 0} (carries : ℕ → C → ℕ → Bytes → Bytes → C → Type 0) (notes : B → Entry → B → Type 0) → AnsweredBySome carries notes
answered_by_some carries notes answer room table x es y h =
    let c = chain table (carries answer) notes room x es y h (λ s. []) in
    record { answers = c.answers; run_so = c.run_so; outs_so = c.outs_so }
