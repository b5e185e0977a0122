-- The browser's part, with both halves of an event, is code as it must be.
use Rattle.std.proofs.Common.{◌≡◌, ℕ, Some, None, Option, refl}
use Rattle.pages.specs.Sites.{Request, Sites}
use Rattle.pages.specs.Browser.{Window, Part, nth, needs_of, needs, exchanged, Event, Opening, TurnOf}
use Rattle.pages.specs.Outs.{outs_of, reply_to, outs}
use Rattle.pages.specs.Code.{ended_by, outs_with_of, outs_with, moved, CodeStands}

module _ {S R : Type 0} (p : Sites S R) where
  exchange_so : (e : Event) (q : Option Request) (b : Part S) (r : ℕ → R) → exchanged p e q b r ≡ record { part = ended_by p.scripts e q (reply_to p q r) b; servers = moved p q r }
  exchange_so e None b r = refl
  exchange_so e (Some q) b r = refl

  lets_found : (f : Option (Window S)) (b : Part S) (r : ℕ → R) → outs_of p f (record { part = b; servers = r }) ≡ outs_with_of p.scripts f (reply_to p (needs_of p.scripts f b) r) b
  lets_found None b r = refl
  lets_found (Some x) b r = refl

  lets-event : (e : Event) (b : Part S) (r : ℕ → R) → outs p e (record { part = b; servers = r }) ≡ outs_with p.scripts e (reply_to p (needs p.scripts e b) r) b
  lets-event (Opening t h) b r = refl
  lets-event (TurnOf i) b r = lets_found (nth i b.windows) b r

pub code_stands : (S R : Type 0) → CodeStands S R
code_stands S R p = record { first_so = λ b. refl; asks_so = λ e b. refl; does_so = λ e b r. exchange_so p e _ _ r; lets_so = λ e b r. lets-event p e b r }
