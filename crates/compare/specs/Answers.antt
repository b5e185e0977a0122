-- What an answer says of two browsers: which difference is the first.
use Rattle.std.specs.Prelude.{◌≡◌, ℕ, ◌+◌, ◌<◌, false, List, take, Some, None, Option}
use Rattle.bounded.specs.Numbers.{number_of}
use Rattle.pages.specs.Browser.{Window, Part}
use Rattle.pages.specs.Outs.{Group}
use Rattle.compare.specs.declared.difference.Difference.{Difference}
use Rattle.compare.specs.declared.difference.Difference.TheVariants.{Windows, Tokens, Stores}
use Rattle.compare.specs.Alike.{AlikeAt, AlikeWindows, AlikeParts}

-- Site s is the first outside the group that has something else.
pub record ApartAt {V : Type 0} (h : Group) (f g : ℕ → V) (s : ℕ) : Type 0 where
  pub outside : h s ≡ false
  pub differ : f s ≡ g s → ⊥
  pub before : (t : ℕ) → t < s → h t ≡ false → f t ≡ g t

-- No site, or the first one.
abbrev pub SiteFound : {V : Type 0} → Group → (ℕ → V) → (ℕ → V) → Option ℕ → Type 0
SiteFound h f g None = AlikeAt h f g
SiteFound h f g (Some s) = ApartAt h f g s

-- Window n is the first that differs: the windows before it are alike, and with it they are not.
pub record ApartFrom {S : Type 0} (h : Group) (xs ys : List (Window S)) (n : ℕ) : Type 0 where
  pub before : AlikeWindows h (take n xs) (take n ys)
  pub differ : AlikeWindows h (take (n + 1) xs) (take (n + 1) ys) → ⊥

-- No window, or the first one.
abbrev pub WindowFound : {S : Type 0} → Group → List (Window S) → List (Window S) → Option ℕ → Type 0
WindowFound h xs ys None = AlikeWindows h xs ys
WindowFound h xs ys (Some n) = ApartFrom h xs ys n

-- A difference means that this part differs, and that those which are compared before it are alike.
abbrev pub IsFirst : {S : Type 0} → Group → Part S → Part S → Difference → Type 0
IsFirst h a b (Windows first) = ApartFrom h a.windows b.windows first
IsFirst h a b (Tokens site) = AlikeWindows h a.windows b.windows × ApartAt h a.tokens b.tokens (number_of site)
IsFirst h a b (Stores site) = AlikeWindows h a.windows b.windows × AlikeAt h a.tokens b.tokens × ApartAt h a.kept b.kept (number_of site)

-- No difference, or the first one.
abbrev pub Found : {S : Type 0} → Group → Part S → Part S → Option Difference → Type 0
Found h a b None = AlikeParts h a b
Found h a b (Some d) = IsFirst h a b d
