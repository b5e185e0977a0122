-- What is alike but for a group of sites, part by part.
use Rattle.std.specs.Prelude.{◌≡◌, ℕ, false, List}
use Rattle.pages.specs.Browser.{Window, Part, World}
use Rattle.pages.specs.Outs.{Group}
use Rattle.pages.specs.Views.{row, of_site}

-- Every site outside the group has the same.
abbrev pub AlikeAt : {V : Type 0} → Group → (ℕ → V) → (ℕ → V) → Type 0
AlikeAt h f g = (s : ℕ) → h s ≡ false → f s ≡ g s

-- The windows are of the same sites, by number, and every site outside the group has the same ones.
pub record AlikeWindows {S : Type 0} (h : Group) (xs ys : List (Window S)) : Type 0 where
  pub public : row xs ≡ row ys
  pub views : (s : ℕ) → h s ≡ false → of_site s 0 xs ≡ of_site s 0 ys

-- Two browsers' parts: windows, tokens and stores.
pub record AlikeParts {S : Type 0} (h : Group) (a b : Part S) : Type 0 where
  pub windows : AlikeWindows h a.windows b.windows
  pub tokens : AlikeAt h a.tokens b.tokens
  pub kept : AlikeAt h a.kept b.kept

-- A browser's part with servers in these states.
abbrev pub world : {S R : Type 0} → Part S → (ℕ → R) → World S R
world b r = record { part = b; servers = r }
