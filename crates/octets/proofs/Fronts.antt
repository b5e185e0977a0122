-- The front of a text, and what follows it. Assumes nothing.
use Rattle.std.proofs.Common.{◌≡◌, ℕ, suc, ◌+◌, Bool, true, List, [], ◌∷◌, ◌++◌, length, take, Some, None, Option, sym, refl, ap, ◌∙◌, ⊎_elim, one-add, arith, Bor, MatchOption}
use Rattle.std.specs.Option.{option_map}
use Rattle.std.specs.List.{prefix_len}
use Rattle.std.proofs.lemmas.Bool.{cond-true, cond-false, eqb-true, eq-eqb, ne_eqb, cases_eq, cases_Bool}
use Rattle.std.proofs.lemmas.List.{take_at, drop_at}
use Rattle.octets.specs.Fronts.{after, front, past}
use Rattle.octets.proofs.Options.{none-some, cond-some}

pub after-append : (p t : List ℕ) → after p (p ++ t) ≡ Some t
after-append [] t = refl
after-append (b ∷ p) t = cond-true _ _ _ (eq-eqb b b refl) ∙ after-append p t

pub after_none : (p s : List ℕ) → ((rest : List ℕ) → s ≡ p ++ rest → ⊥) → after p s ≡ None
after_none [] s h = absurd (h s refl)
after_none (a ∷ p) [] h = refl
after_none (a ∷ p) (b ∷ s) h =
    ⊎_elim
    (λ e. cond-true _ _ _ (eq-eqb a b e) ∙ after_none p s (λ rest q. h rest (cc)))
    (λ n. cond-false _ _ _ (ne_eqb a b n))
    (cases_eq a b)

pub after_is : (p s : List ℕ) (r : Option (Bor (List ℕ))) → MatchOption r ((rest : List ℕ) → s ≡ p ++ rest → ⊥) (λ x. s ≡ p ++ x.now) → option_map (λ x. x.now) r ≡ after p s
after_is p s None h = sym (after_none p s h)
after_is p s (Some x) h = sym (ap (after p) h ∙ after-append p x.now)

pub after-some : (p s t : List ℕ) → after p s ≡ Some t → s ≡ p ++ t
after-some [] s t e = cc
after-some (a ∷ p) [] t e = absurd (none-some t e)
after-some (a ∷ p) (b ∷ s) t e =
    let h = cond-some _ _ t e in
    let x = eqb-true a b h.0 in
    let y = after-some p s t h.1 in
    cc

-- c takes each byte of h and not the first of t
pub leading_stops : (c : ℕ → Bool) (h t : List ℕ) → prefix_len c h ≡ length h → prefix_len c t ≡ 0 → prefix_len c (h ++ t) ≡ length h
leading_stops c [] t p q = q
leading_stops c (b ∷ h) t p q =
    ⊎_elim
    (λ y. cond-true _ _ _ y ∙ (let p' : prefix_len c h ≡ length h = omega (arith, sym (cond-true _ (1 + prefix_len c h) 0 y) ∙ p) in omega (arith, leading_stops c h t p' q)))
    (λ n. let z : 0 ≡ suc (length h) = sym (cond-false _ (1 + prefix_len c h) 0 n) ∙ p in absurd (omega arith))
    (cases_Bool (c b))

pub front-append : (c : ℕ → Bool) (h t : List ℕ) → prefix_len c h ≡ length h → prefix_len c t ≡ 0 → front c (h ++ t) ≡ h
front-append c h t p q = take_at h t _ (sym (leading_stops c h t p q))

pub past-append : (c : ℕ → Bool) (h t : List ℕ) → prefix_len c h ≡ length h → prefix_len c t ≡ 0 → past c (h ++ t) ≡ t
past-append c h t p q = drop_at h t _ (sym (leading_stops c h t p q))

-- c takes every byte
pub all_append : (c : ℕ → Bool) (h t : List ℕ) → prefix_len c h ≡ length h → prefix_len c t ≡ length t → prefix_len c (h ++ t) ≡ length (h ++ t)
all_append c [] t p q = q
all_append c (b ∷ h) t p q =
    ⊎_elim
    (λ y. let p' : prefix_len c h ≡ length h = omega (arith, sym (cond-true _ (1 + prefix_len c h) 0 y) ∙ p) in
    let r = all_append c h t p' q in
    let g : 1 + prefix_len c (h ++ t) ≡ suc (length (h ++ t)) = omega arith in
    cond-true _ _ _ y ∙ g)
    (λ n. let z : 0 ≡ suc (length h) = sym (cond-false _ (1 + prefix_len c h) 0 n) ∙ p in absurd (omega arith))
    (cases_Bool (c b))

pub all-front : (c e : ℕ → Bool) → ((b : ℕ) → c b ≡ true → e b ≡ true) → (s : List ℕ) → prefix_len e (front c s) ≡ length (front c s)
all-front c e w [] = refl
all-front c e w (b ∷ s) =
    ⊎_elim
    (λ y. let n : prefix_len c (b ∷ s) ≡ suc (prefix_len c s) = cond-true _ (1 + prefix_len c s) 0 y ∙ one-add _ in
    let g : 1 + prefix_len e (front c s) ≡ suc (length (front c s)) = omega (arith, all-front c e w s) in
    (λ i. prefix_len e (take (n i) (b ∷ s))) ∙ cond-true _ _ _ (w b y) ∙ g ∙ sym (λ i. length (take (n i) (b ∷ s))))
    (λ y. let n : prefix_len c (b ∷ s) ≡ 0 = cond-false _ (1 + prefix_len c s) 0 y in
    (λ i. prefix_len e (take (n i) (b ∷ s))) ∙ sym (λ i. length (take (n i) (b ∷ s))))
    (cases_Bool (c b))
