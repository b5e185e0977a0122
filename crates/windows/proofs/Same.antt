-- Values that stand for the same, decided by their parts.
use Rattle.std.proofs.Common.{◌≡◌, Bool, ◌&&◌, eqb, List, [], ◌∷◌, map, Decides, sym, refl, ap, ◌∙◌}
use Rattle.std.specs.Ordering.{on}
use Rattle.std.specs.Cmp.Lexicographic.{pointwise}
use Rattle.std.specs.Cmp.Derive.Mapped.{pointwise-map}
use Rattle.std.proofs.lemmas.Bool.{and_parts, and_from}
use Rattle.std.proofs.lemmas.Slice.Eq.{slice_eq-Decides}
use Rattle.pages.specs.Browser.{Word}
use Rattle.windows.specs.Queues.{same_words}
use Rattle.std.proofs.lemmas.Bool.Decides.{Decides-eqb}

-- two words are the same where their sites and their bytes are
pub words_decide : (a b : Word) → Decides (same_words a b) (a ≡ b)
words_decide a b =
    let from = Decides-eqb a.from b.from in
    let what = slice_eq-Decides Decides-eqb a.what b.what _ refl in (
      λ t. let p = and_parts (eqb a.from b.from) (pointwise eqb a.what b.what) t in λ i. record { from = from.0 p.0 i; what = what.0 p.1 i },
      λ e. and_from (eqb a.from b.from) (pointwise eqb a.what b.what) (from.1 (λ i. (e i).from)) (what.1 (λ i. (e i).what)),
    )

-- lists whose elements are compared by what they stand for
module _ {W V : Type 0} (f : W → V) (E : V → V → Bool) where
  pub maps_decide : (decides : (a b : V) → Decides (E a b) (a ≡ b)) (xs ys : List W) (r : Bool) → r ≡ pointwise (on f E) xs ys → Decides r (map f xs ≡ map f ys)
  maps_decide decides xs ys r h = slice_eq-Decides decides (map f xs) (map f ys) r (h ∙ sym (pointwise-map f E xs ys))

-- a value that is known by another
pub decides_by : {A : Type 0} (xs ys a b : A) (r : Bool) → xs ≡ a → ys ≡ b → Decides r (xs ≡ ys) → Decides r (a ≡ b)
decides_by xs ys a b r p q d = (λ t. sym p ∙ d.0 t ∙ q, λ e. d.1 (p ∙ e ∙ sym q))
