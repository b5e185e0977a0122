-- The two halves of an event are the event.
use Rattle.std.proofs.Common.{◌≡◌, ℕ, Bool, true, false, cond, not, ◌&&◌, eqb, ltb, List, [], ◌∷◌, ◌++◌, length, Some, None, Option, refl}
use Rattle.machine.specs.Script.{State}
use Rattle.pages.specs.Sites.{Bytes, Act, Idle, Asks, Says, Keeps, Looks, Opens, Request, Reply}
use Rattle.pages.specs.Browser.{Window, Part, most_windows, nth, act_of, needs_by, needs_of, TurnOf}
use Rattle.pages.specs.Outs.{out, Asked, Said, Opened, is_of, let_by, outs_by}
use Rattle.pages.specs.Code.{ended_by, outs_with_of}
use Rattle.windows.specs.Scripts.{by_machine}
use Rattle.browser.specs.Ends.{finished, server_outs_of}
use Rattle.browser.specs.Halves.{page_outs, page_outs_of, server_outs}
use Rattle.browser.specs.Whole.{reply_in}
use Rattle.browser.specs.Wire.{SiteTable}

pub ends_so : (table : SiteTable) (i : ℕ) (q : Option Request) (bs : Bytes) (b : Part State) → finished table i q bs b ≡ ended_by (by_machine (length table)) (TurnOf i) q (reply_in table q bs) b
ends_so table i None bs b = refl
ends_so table i (Some q) bs b = refl

pub server_so : (table : SiteTable) (q : Option Request) (bs : Bytes) → server_outs_of table q bs ≡ server_outs q (reply_in table q bs)
server_so table None bs = refl
server_so table (Some q) bs = refl

-- what a page lets out, and then what the asked server does
act-outs : (ws : List (Window State)) (s : ℕ) (a : Act) (b : Part State) (r : Reply) → outs_by ws s a r ≡ page_outs ws s a ++ server_outs (needs_by s a b) r
act-outs ws s Idle b r = refl
act-outs ws s (Asks t h d) b r = go (eqb t s)
  where
    go : (c : Bool) → cond c [] (out s t (Asked h d) ∷ let_by t s r) ≡ cond c [] (out s t (Asked h d) ∷ []) ++ cond c [] (let_by t s r)
    go true = refl
    go false = refl
act-outs ws s (Says j t d) b r = go (not (eqb t s) && is_of t (nth j ws))
  where
    go : (c : Bool) → cond c (out s t (Said j d) ∷ []) [] ≡ cond c (out s t (Said j d) ∷ []) [] ++ []
    go true = refl
    go false = refl
act-outs ws s (Keeps d) b r = refl
act-outs ws s Looks b r = refl
act-outs ws s (Opens t h) b r = go (ltb (length b.windows) most_windows)
  where
    go : (c : Bool) → out s t (Opened h) ∷ [] ≡ (out s t (Opened h) ∷ []) ++ server_outs (cond c (Some (record { site = t; from = None; token = b.tokens t; path = h; body = [] })) None) r
    go true = refl
    go false = refl

pub outs_so : (n : ℕ) (f : Option (Window State)) (b : Part State) (r : Reply) → outs_with_of (by_machine n) f r b ≡ page_outs_of (by_machine n) f b ++ server_outs (needs_of (by_machine n) f b) r
outs_so n None b r = refl
outs_so n (Some x) b r = act-outs b.windows x.site (act_of (by_machine n) x) b r
