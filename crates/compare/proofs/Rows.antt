-- Rows of windows that are alike but for a group: place by place, and from the front.
use Rattle.std.proofs.Common.{◌≡◌, ℕ, zero, suc, ◌+◌, ◌<◌, ◌≤◌, min, Bool, true, false, List, [], ◌∷◌, ◌++◌, map, length, get_or, take, Decides, sym, refl, ap, ◌∙◌, subst, subst₂, true≢false, add-one, arith, length-take}
use lib.ListN.{length-map}
use Rattle.std.specs.List.{AllWithin, HoldsAt, zip}
use Rattle.std.proofs.lemmas.Slice.Zip.{length-zip, get_or-zip}
use Rattle.std.proofs.lemmas.List.{take_more, take_all, get_or-map}
use Rattle.pages.specs.Browser.{Window}
use Rattle.pages.specs.Outs.{Group}
use Rattle.pages.proofs.Same.{SameWindow, both_own, one_other, SameBut, none, pair, same_site_lem, same_length, same_join, same_row, same_views, by_views}
use Rattle.compare.specs.Alike.{AlikeWindows}
use Rattle.compare.specs.Answers.{ApartFrom}

module _ {S : Type 0} {h : Group} where
  pub by_places : {xs ys : List (Window S)} → SameBut h xs ys → AlikeWindows h xs ys
  by_places s = record { public = same_row s; views = λ v n. same_views s v n 0 }

  pub places : {xs ys : List (Window S)} → AlikeWindows h xs ys → SameBut h xs ys
  places {xs} {ys} a = by_views 0 xs ys a.public a.views

  -- one window each
  only_pair : {x y : Window S} → SameBut h (x ∷ []) (y ∷ []) → SameWindow h x y
  only_pair (pair s r) = s

  equal : (x y : Window S) → h x.site ≡ false → SameWindow h x y → x ≡ y
  equal x y n (both_own a b) = absurd (true≢false (sym a ∙ n))
  equal x y n (one_other a) = refl

  pub one-site : (x y : Window S) → AlikeWindows h (x ∷ []) (y ∷ []) → x.site ≡ y.site
  one-site x y a = same_site_lem (only_pair (places a))

  pub own-alike : (x y : Window S) → h x.site ≡ true → x.site ≡ y.site → AlikeWindows h (x ∷ []) (y ∷ [])
  own-alike x y a b = by_places (pair (both_own a b) none)

  pub other_decides : (x y : Window S) (r : Bool) → h x.site ≡ false → Decides r (x ≡ y) → Decides r (AlikeWindows h (x ∷ []) (y ∷ []))
  other_decides x y r n d = (
    λ t. subst (λ z. AlikeWindows h (x ∷ []) (z ∷ [])) (d.0 t) (by_places (pair (one_other n) none)),
    λ a. d.1 (equal x y n (only_pair (places a))),
  )

  -- the windows at the front are alike too
  same_take : (n : ℕ) {xs ys : List (Window S)} → SameBut h xs ys → SameBut h (take n xs) (take n ys)
  same_take zero s = none
  same_take (suc n) none = none
  same_take (suc n) (pair a s) = pair a (same_take n s)

  pub not_first : (n : ℕ) (xs ys : List (Window S)) → ApartFrom h xs ys n → AlikeWindows h xs ys → ⊥
  not_first n xs ys f a = f.differ (by_places (same_take (n + 1) (places a)))

  last_pair : (xs ys : List (Window S)) (x y : Window S) → length xs ≡ length ys → SameBut h (xs ++ (x ∷ [])) (ys ++ (y ∷ [])) → SameWindow h x y
  last_pair [] [] x y e (pair s r) = s
  last_pair [] (b ∷ ys) x y e s = absurd (omega arith)
  last_pair (a ∷ xs) [] x y e s = absurd (omega arith)
  last_pair (a ∷ xs) (b ∷ ys) x y e (pair s r) = last_pair xs ys x y (omega arith) r

-- something stands at a place of a list
stands : {X : Type 0} (xs : List X) (n : ℕ) → n < length xs → (x : X) × (x ≡ get_or xs n x)
stands [] n l = absurd (omega arith)
stands (x ∷ xs) zero l = (x, refl)
stands (x ∷ xs) (suc n) l = stands xs n (omega arith)

front_split : {X Y : Type 0} (f : X → Y) (zs : List X) (n : ℕ) (z : X) → n < length zs → z ≡ get_or zs n z → take (n + 1) (map f zs) ≡ take n (map f zs) ++ (f z ∷ [])
front_split f zs n z l e =
    take_more (map f zs) n (f z) (omega (arith, length-map zs f)) ∙ ap (λ u. take n (map f zs) ++ (u ∷ [])) (get_or-map f zs n z (f z) l ∙ ap f (sym e))

-- what values stand for, from the front on
module _ {S X : Type 0} (h : Group) (f : X → Window S) (xs ys : List X) where
  abbrev pub Front : ℕ → Type 0
  Front n = AlikeWindows h (take n (map f xs)) (take n (map f ys))

  pub front-none : Front 0
  front-none = by_places none

  pub front-all : (n : ℕ) → length xs ≤ n → length ys ≤ n → Front n → AlikeWindows h (map f xs) (map f ys)
  front-all n p q =
      let a : length (map f xs) ≤ n = omega (arith, length-map xs f) in
      let b : length (map f ys) ≤ n = omega (arith, length-map ys f) in
      subst₂ (λ u v. AlikeWindows h u v) (take_all n (map f xs) a) (take_all n (map f ys) b)

  -- as many windows on both sides
  front_long : (n : ℕ) → Front n → min n (length xs) ≡ min n (length ys)
  front_long n s = sym (many xs) ∙ same_length (places s) ∙ many ys
    where
      many : (zs : List X) → length (take n (map f zs)) ≡ min n (length zs)
      many zs = length-take n (map f zs) ∙ ap (min n) (length-map zs f)

  module _ (n : ℕ) (x y : X) (ha : n < length xs) (hb : n < length ys) (x-at : x ≡ get_or xs n x) (y-at : y ≡ get_or ys n y) where
    pub front-more : AlikeWindows h (f x ∷ []) (f y ∷ []) → Front n → Front (n + 1)
    front-more a s =
        subst₂ (λ u v. AlikeWindows h u v) (sym (front_split f xs n x ha x-at)) (sym (front_split f ys n y hb y-at))
        (by_places (same_join (places s) (places a)))

    pub front_apart : (AlikeWindows h (f x ∷ []) (f y ∷ []) → ⊥) → Front n → ApartFrom h (map f xs) (map f ys) n
    front_apart k s = record { before = s; differ = λ t. k (by_places (pair (last t) none)) }
      where
        last : Front (n + 1) → SameWindow h (f x) (f y)
        last t =
            last_pair (take n (map f xs)) (take n (map f ys)) (f x) (f y) (same_length (places s))
            (subst₂ (λ u v. SameBut h u v) (front_split f xs n x ha x-at) (front_split f ys n y hb y-at) (places t))

  -- two windows at one place are alike
  abbrev pub Both : X × X → Type 0
  Both p = AlikeWindows h (f p.0 ∷ []) (f p.1 ∷ [])

  both_at : (P : X × X → Type 0) (n : ℕ) → n < length xs → n < length ys → HoldsAt P (zip xs ys) n → (x : X) × (y : X) × (x ≡ get_or xs n x) × (y ≡ get_or ys n y) × P (x, y)
  both_at P n p q k =
      let x = stands xs n p in
      let y = stands ys n q in
      let e : get_or (zip xs ys) n (x.0, y.0) ≡ (x.0, y.0) = get_or-zip xs ys n (x.0, y.0) p q ∙ (λ i. (sym x.1 i, sym y.1 i)) in
      (x.0, y.0, x.1, y.1, subst P e (k (x.0, y.0)))

  pub front_upto : (n : ℕ) → n ≤ length xs → n ≤ length ys → AllWithin Both (zip xs ys) 0 n → Front n
  front_upto zero p q a = front-none
  front_upto (suc n) p q a =
      let b = both_at Both n (omega arith) (omega arith) (λ d. a n d (omega arith) (omega arith)) in
      subst Front (add-one n) (front-more n b.0 b.1 (omega arith) (omega arith) b.2 b.3 b.4 (front_upto n (omega arith) (omega arith) (λ k d l m. a k d l (omega arith))))

  -- the first place where they are not
  pub first_apart : (n : ℕ) → n < length (zip xs ys) → HoldsAt (λ p. Both p → ⊥) (zip xs ys) n → AllWithin Both (zip xs ys) 0 n → ApartFrom h (map f xs) (map f ys) n
  first_apart n l k a =
      let z = length-zip xs ys in
      let b = both_at (λ p. Both p → ⊥) n (omega (arith, z, l)) (omega (arith, z, l)) k in
      front_apart n b.0 b.1 (omega (arith, z, l)) (omega (arith, z, l)) b.2 b.3 b.4 (front_upto n (omega (arith, z, l)) (omega (arith, z, l)) a)

  -- one of them lacks window n
  pub front_lacks : (n : ℕ) → (min (n + 1) (length xs) ≡ min (n + 1) (length ys) → ⊥) → Front n → ApartFrom h (map f xs) (map f ys) n
  front_lacks n k s = record { before = s; differ = λ t. k (front_long (n + 1) t) }

  -- all that stand at one place are alike
  pub all_both : AllWithin Both (zip xs ys) 0 (length (zip xs ys)) → Front (min (length xs) (length ys))
  all_both a = front_upto _ (omega arith) (omega arith) (subst (AllWithin Both (zip xs ys) 0) (length-zip xs ys) a)

  pub lacks : (n : ℕ) → n ≡ min (length xs) (length ys) → (length xs ≡ length ys → ⊥) → AllWithin Both (zip xs ys) 0 (length (zip xs ys)) → ApartFrom h (map f xs) (map f ys) n
  lacks n q k a = subst (λ m. ApartFrom h (map f xs) (map f ys) m) (sym q) (front_lacks _ (λ e. k (omega arith)) (all_both a))

  pub none_apart : length xs ≡ length ys → AllWithin Both (zip xs ys) 0 (length (zip xs ys)) → AlikeWindows h (map f xs) (map f ys)
  none_apart e a = front-all _ (omega arith) (omega arith) (all_both a)
