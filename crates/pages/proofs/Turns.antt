-- A turn is its script's run and then its act.
use Rattle.std.proofs.Common.{◌≡◌, ℕ, cond, ltb, List, Some, None, Option, sym, refl, ap, ◌∙◌}
use Rattle.pages.specs.Sites.{Act, Idle, Asks, Says, Keeps, Looks, Opens, Request, Sites}
use Rattle.pages.specs.Browser.{Window, World, most_windows, at, nth, act_of, stepped, with_windows, acted, needs_by, needs_of, begun_by, with_reply, exchanged, happens, TurnOf}
use Rattle.pages.specs.Laws.{running, fetching}
use Rattle.pages.proofs.Places.{change-length}

module _ {S R : Type 0} where
  -- the world with other windows
  abbrev pub showing : List (Window S) → World S R → World S R
  showing xs w = record { part = with_windows xs w.part; servers = w.servers }

  -- and where the server of q's site has replied to q
  abbrev pub replied : Sites S R → Request → List (Window S) → World S R → World S R
  replied p q xs w = record { part = with_reply q (p.serve q (w.servers q.site)).reply xs w.part; servers = at q.site (p.serve q (w.servers q.site)).state w.servers }

  -- window i's script has run, and nothing else is done
  abbrev pub after_run : Sites S R → ℕ → World S R → World S R
  after_run p i w = showing (running p i w) w

  -- window i, of site s, does something
  abbrev pub does : Sites S R → ℕ → ℕ → Act → World S R → World S R
  does p i s a w = exchanged p (TurnOf i) (needs_by s a w.part) (acted i s a w.part) w.servers

  -- a run opens no windows, so what is asked of a server is the same before and after it
  needs-after : (p : Sites S R) (i s : ℕ) (a : Act) (w : World S R) → needs_by s a (after_run p i w).part ≡ needs_by s a w.part
  needs-after p i s Idle w = refl
  needs-after p i s (Asks t h d) w = refl
  needs-after p i s (Says j t d) w = refl
  needs-after p i s (Keeps d) w = refl
  needs-after p i s Looks w = refl
  needs-after p i s (Opens t h) w = ap {B = Option Request} (λ n. cond (ltb n most_windows) (Some (fetching w t h)) None) (change-length i (stepped p.scripts) w.part.windows)

  pub turn_is : (p : Sites S R) (i : ℕ) (x : Window S) (w : World S R) → nth i w.part.windows ≡ Some x → (a : Act) → act_of p.scripts x ≡ a → happens p (TurnOf i) w ≡ does p i x.site a (after_run p i w)
  turn_is p i x w at_x a e =
      ap (λ f. exchanged p (TurnOf i) (needs_of p.scripts f w.part) (begun_by p.scripts i f w.part) w.servers) at_x
      ∙ ap (λ c. exchanged p (TurnOf i) (needs_by x.site c w.part) (acted i x.site c (after_run p i w).part) w.servers) e
      ∙ ap (λ q. exchanged p (TurnOf i) q (acted i x.site a (after_run p i w).part) w.servers) (sym (needs-after p i x.site a w))
