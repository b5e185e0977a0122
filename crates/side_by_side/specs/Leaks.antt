-- Nothing of other sites differs after an event.
use Rattle.std.specs.Prelude.{◌≡◌, ℕ, List, Option}
use Rattle.pages.specs.Sites.{Bytes}
use Rattle.pages.specs.Browser.{World}
use Rattle.pages.specs.Outs.{Out, Group, by_others, keep_only}
use Rattle.pages.specs.Views.{Alike}

-- All that is of other sites is the same, they let out the same, and their servers were asked the same, byte for byte.
pub record NoLeak {S R : Type 0} (h : Group) (w u : World S R) (os ps : List Out) (q r : Option (ℕ × Bytes)) : Type 0 where
  pub alike : Alike h w u
  pub outs : keep_only (by_others h) os ≡ keep_only (by_others h) ps
  pub requests : q ≡ r
