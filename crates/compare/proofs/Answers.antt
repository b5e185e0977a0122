-- What an answer says: it decides whether the parts are alike, and is made of what is found of windows and of sites.
use Rattle.std.proofs.Common.{◌≡◌, ℕ, not, List, is_some, Some, None, Decides, Option, refl, subst₂}
use mathlib.Core.Bool.{false≢true}
use Rattle.pages.specs.Browser.{Window, Part}
use Rattle.pages.specs.Outs.{Group}
use Rattle.compare.specs.declared.difference.Difference.{Difference}
use Rattle.compare.specs.declared.difference.Difference.TheVariants.{Windows, Tokens, Stores}
use Rattle.compare.specs.Alike.{AlikeAt, AlikeParts}
use Rattle.compare.specs.Answers.{ApartAt, SiteFound, WindowFound, IsFirst, Found}
use Rattle.compare.proofs.Rows.{not_first}

not_at : {V : Type 0} {h : Group} {f g : ℕ → V} (s : ℕ) → ApartAt h f g s → AlikeAt h f g → ⊥
not_at s a e = a.differ (e s a.outside)

apart : {S : Type 0} {h : Group} (a b : Part S) (d : Difference) → IsFirst h a b d → AlikeParts h a b → ⊥
apart a b (Windows first) f p = not_first first _ _ f p.windows
apart a b (Tokens site) f p = not_at _ f.1 p.tokens
apart a b (Stores site) f p = not_at _ f.2 p.kept

pub found_decides : {S : Type 0} (h : Group) (a b : Part S) (r : Option Difference) → Found h a b r → Decides (not (is_some r)) (AlikeParts h a b)
found_decides h a b None f = (λ t. f, λ p. refl)
found_decides h a b (Some d) f = (λ t. absurd (false≢true t), λ p. absurd (apart a b d f p))

-- the same of what is known by other names
pub windows_found : {S : Type 0} (h : Group) (xs ys us vs : List (Window S)) (r : Option ℕ) → xs ≡ us → ys ≡ vs → WindowFound h xs ys r → WindowFound h us vs r
windows_found h xs ys us vs r p q = subst₂ (λ x y. WindowFound h x y r) p q

pub site_found : {V : Type 0} (h : Group) (f g k l : ℕ → V) (r : Option ℕ) → f ≡ k → g ≡ l → SiteFound h f g r → SiteFound h k l r
site_found h f g k l r p q = subst₂ (λ x y. SiteFound h x y r) p q
