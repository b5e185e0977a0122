-- One step more in a chain of steps.
use Rattle.std.proofs.Common.{◌≡◌, ℕ, List, [], ◌∷◌, Some, None, Option, sym, refl, ap, ◌∙◌, subst}
use Rattle.octets.proofs.Options.{none-some, some_same}
use Rattle.pages.specs.Sites.{Bytes}
use Rattle.pages.specs.Browser.{Event}
use Rattle.pages.specs.Runs.{Due}
use Rattle.browser.specs.Wire.{SiteTable}
use Rattle.book.specs.Records.{Entry}
use Rattle.plans.specs.Agendas.{event_in, rest_of}
use Rattle.runs.specs.Events.{Occurs}
use Rattle.runs.specs.Chains.{Reached, Moment, Step, due_at}

pub reached_none : {S E : Type 0} (R : S → E → S → Type 0) (s : S) → Reached R s [] s
unfolding Reached
reached_none R s = refl

pub reached_more : {S E : Type 0} (R : S → E → S → Type 0) (s u t : S) (es : List E) (e : E) → Reached R s es u → R u e t → Reached R s (e ∷ es) t
unfolding Reached
reached_more R s u t es e h r = (u, h, r)

-- The event that is due, with what is left then.
pub some-due : (o : Option Due) (e : Event) → Some e ≡ event_in o → (d : Due) × (o ≡ Some d) × (d.event ≡ e)
some-due None e h = absurd (none-some e (sym h))
some-due (Some d) e h = (d, refl, sym (some_same e d.event h))

pub none-due : (o : Option Due) → None ≡ event_in o → o ≡ None
none-due None h = refl
none-due (Some d) h = absurd (none-some d.event h)

module _ {C B : Type 0} (G : C → ℕ → Bytes → Bytes → C → Type 0) (N : B → Entry → B → Type 0) (room : ℕ) (table : SiteTable) where
  pub step_so : (x y : Moment C B) (e : Event) (entry : Entry) → Some e ≡ event_in (due_at x) → y.agenda ≡ rest_of (due_at x) → Occurs G room table e x.part x.carrier entry y.part y.carrier → N x.book entry y.book → Step G N room table x entry y
  step_so x y e entry h l o n =
      let f = some-due (due_at x) e h in
      record {
        now_due = f.0;
        is_due = f.1;
        occurs = subst (λ z. Occurs G room table z x.part x.carrier entry y.part y.carrier) (sym f.2) o;
        left = l ∙ ap rest_of f.1;
        noted = n;
      }
