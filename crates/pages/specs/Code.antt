-- What code must do to be this browser: by its states, what it asks of a server in an event, what it does with the reply, and what it then says was let out.
use Rattle.std.specs.Prelude.{◌≡◌, ℕ, List, [], Some, None, Option}
use Rattle.pages.specs.Sites.{Request, Reply, Scripts, Sites}
use Rattle.pages.specs.Browser.{Window, Part, at, nth, act_of, begun, needs, ended, served, happens, Event, Opening, TurnOf}
use Rattle.pages.specs.Outs.{Out, outs_by, reply_to, outs}

module _ {S : Type 0} where
  -- The second half of an event, where a server was asked or not.
  abbrev pub ended_by : Scripts S → Event → Option Request → Reply → Part S → Part S
  ended_by c e None r b = b
  ended_by c e (Some q) r b = ended c e q r b

  -- Both halves of an event, with the reply in between.
  abbrev pub turned : Scripts S → Event → Reply → Part S → Part S
  turned c e r b = ended_by c e (needs c e b) r (begun c e b)

  -- What is let out in the turn of the window that is there, if one is, where this is the reply.
  abbrev pub outs_with_of : Scripts S → Option (Window S) → Reply → Part S → List Out
  outs_with_of c None r b = []
  outs_with_of c (Some x) r b = outs_by b.windows x.site (act_of c x) r

  -- What is let out in an event, where this is the reply.
  abbrev pub outs_with : Scripts S → Event → Reply → Part S → List Out
  outs_with c (Opening t h) r b = []
  outs_with c (TurnOf i) r b = outs_with_of c (nth i b.windows) r b

-- The servers' states after a request, if there was one.
abbrev pub moved : {S R : Type 0} → Sites S R → Option Request → (ℕ → R) → ℕ → R
moved p None r = r
moved p (Some q) r = at q.site (served p q r).state r

-- Code with these states, of which each stands for a browser's part, is this browser: it asks what is needed, does what happens, and says what is let out, whatever the servers' states are.
pub record IsCode {S R : Type 0} (p : Sites S R) (State : Type 0) (part : State → Part S) (first : Part S → State) (asks : Event → State → Option Request) (does : Event → Reply → State → State) (lets : Event → Reply → State → List Out) : Type 0 where
  pub first_so : (b : Part S) → part (first b) ≡ b
  pub asks_so : (e : Event) (x : State) → asks e x ≡ needs p.scripts e (part x)
  pub does_so : (e : Event) (x : State) (r : ℕ → R) → happens p e (record { part = part x; servers = r }) ≡ record { part = part (does e (reply_to p (asks e x) r) x); servers = moved p (asks e x) r }
  pub lets_so : (e : Event) (x : State) (r : ℕ → R) → outs p e (record { part = part x; servers = r }) ≡ lets e (reply_to p (asks e x) r) x

-- The browser's part itself, with both halves of an event, is such code, for any sites.
abbrev pub CodeStands : Type 0 → Type 0 → Type 0
CodeStands S R = (p : Sites S R) → IsCode p (Part S) (λ b. b) (λ b. b) (needs p.scripts) (turned p.scripts) (outs_with p.scripts)
