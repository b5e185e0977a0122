-- The two halves of an event, an opening or a turn, are the event.
use Rattle.std.proofs.Common.{◌≡◌, ℕ, Bool, true, false, cond, ltb, [], ◌++◌, length, Some, None, sym, refl, ap, ◌∙◌}
use Rattle.machine.specs.Script.{State}
use Rattle.pages.specs.Sites.{Bytes, Request}
use Rattle.pages.specs.Browser.{Part, most_windows, nth, Event, Opening, TurnOf}
use Rattle.pages.specs.Code.{ended_by, outs_with}
use Rattle.windows.specs.Scripts.{by_machine}
use Rattle.browser.specs.Ends.{finished, server_outs_of}
use Rattle.browser.specs.Halves.{page_outs_of}
use Rattle.browser.specs.Whole.{reply_in}
use Rattle.browser.specs.Wire.{SiteTable}
use Rattle.browser.proofs.Together.{ends_so, server_so, outs_so}
use Rattle.runs.specs.Events.{asked, window_in, page_outs_in}

module _ (table : SiteTable) (bs : Bytes) (b : Part State) where
  -- the request for a page
  abbrev fetch : ℕ → Bytes → Request
  fetch t h = record { site = t; from = None; token = b.tokens t; path = h; body = [] }

  pub ended_so : (e : Event) (b' : Part State) → finished table (window_in e) (asked table e b) bs b' ≡ ended_by (by_machine (length table)) e (asked table e b) (reply_in table (asked table e b) bs) b'
  ended_so (TurnOf i) b' = ends_so table i (asked table (TurnOf i) b) bs b'
  ended_so (Opening t h) b' = go (ltb (length b.windows) most_windows)
    where
      go : (r : Bool) → finished table 0 (cond r (Some (fetch t h)) None) bs b' ≡ ended_by (by_machine (length table)) (Opening t h) (cond r (Some (fetch t h)) None) (reply_in table (cond r (Some (fetch t h)) None) bs) b'
      go true = refl
      go false = refl

  pub outs_are : (e : Event) → page_outs_in table e b ++ server_outs_of table (asked table e b) bs ≡ outs_with (by_machine (length table)) e (reply_in table (asked table e b) bs) b
  outs_are (TurnOf i) =
      ap (λ z. page_outs_of (by_machine (length table)) (nth i b.windows) b ++ z) (server_so table (asked table (TurnOf i) b) bs)
      ∙ sym (outs_so (length table) (nth i b.windows) b (reply_in table (asked table (TurnOf i) b) bs))
  outs_are (Opening t h) = go (ltb (length b.windows) most_windows)
    where
      go : (r : Bool) → server_outs_of table (cond r (Some (fetch t h)) None) bs ≡ []
      go true = refl
      go false = refl
