-- A front of a class, and then a front of a wider one. Assumes nothing.
use Rattle.std.proofs.Common.{◌≡◌, ℕ, suc, zero, ◌+◌, Bool, true, false, List, [], ◌∷◌, ◌++◌, length, take, drop, sym, refl, ap, ◌∙◌, ⊎_elim, one-add, arith}
use Rattle.std.specs.List.{prefix_len}
use Rattle.std.proofs.Math.Seq.{take-add}
use Rattle.std.proofs.lemmas.Bool.{cond-true, cond-false, cases_Bool, cases_lt}
use Rattle.std.proofs.lemmas.List.{drop-drop}
use Rattle.std.proofs.lemmas.List.Sums.{prefix_len_stops, prefix_len-drop_no, prefix_len-drop_all}
use Rattle.octets.specs.Fronts.{front, past}
use Rattle.octets.proofs.Fronts.{all-front, front-append, past-append}

module _ (c e : ℕ → Bool) (wider : (b : ℕ) → c b ≡ true → e b ≡ true) where
  front_then : (s : List ℕ) → prefix_len e s ≡ prefix_len c s + prefix_len e (past c s)
  front_then [] = refl
  front_then (b ∷ s) =
      ⊎_elim
      (λ y. let n : prefix_len c (b ∷ s) ≡ suc (prefix_len c s) = cond-true (c b) (1 + prefix_len c s) 0 y ∙ one-add (prefix_len c s) in
      let m : prefix_len e (b ∷ s) ≡ 1 + prefix_len e s = cond-true (e b) (1 + prefix_len e s) 0 (wider b y) in
      let f = front_then s in
      let g : 1 + prefix_len e s ≡ suc (prefix_len c s) + prefix_len e (past c s) = omega arith in
      m ∙ g ∙ sym (λ i. n i + prefix_len e (drop (n i) (b ∷ s))))
      (λ y. let n : prefix_len c (b ∷ s) ≡ 0 = cond-false (c b) (1 + prefix_len c s) 0 y in
      let g : prefix_len e (b ∷ s) ≡ 0 + prefix_len e (b ∷ s) = omega arith in
      g ∙ sym (λ i. n i + prefix_len e (drop (n i) (b ∷ s))))
      (cases_Bool (c b))

  past_stops : (s : List ℕ) → prefix_len c (past c s) ≡ 0
  past_stops s =
      ⊎_elim
      (λ l. prefix_len-drop_no c s (prefix_len c s) 0 l (prefix_len_stops c s 0 l))
      (λ l. prefix_len-drop_all c s (prefix_len c s) l)
      (cases_lt (prefix_len c s) (length s))

  -- no byte of c begins what e takes after c
  then_stops : (s : List ℕ) → prefix_len c s ≡ 0 → prefix_len c (front e s) ≡ 0
  then_stops [] h = refl
  then_stops (b ∷ s) h =
      ⊎_elim
      (λ y. let z : suc (prefix_len c s) ≡ 0 = sym (one-add (prefix_len c s)) ∙ sym (cond-true (c b) (1 + prefix_len c s) 0 y) ∙ h in absurd (omega arith))
      (λ y. stays (prefix_len e (b ∷ s)) y)
      (cases_Bool (c b))
    where
      stays : (k : ℕ) → c b ≡ false → prefix_len c (take k (b ∷ s)) ≡ 0
      stays zero y = refl
      stays (suc k) y = cond-false (c b) (1 + prefix_len c (take k s)) 0 y

  -- s is cut into what c takes, what e takes after it, and what is left
  module _ (s name others after end : List ℕ) (p : name ≡ front c s) (q : after ≡ past c s) (r : others ≡ front e after) (u : end ≡ past e after) where
    pub line_is : name ++ others ≡ front e s
    line_is =
        (λ i. p i ++ (r ∙ ap (front e) q) i)
        ∙ sym (take-add (prefix_len c s) (prefix_len e (past c s)) s)
        ∙ ap (λ k. take k s) (sym (front_then s))

    pub end_is : end ≡ past e s
    end_is = u ∙ ap (past e) q ∙ drop-drop (prefix_len e (past c s)) (prefix_len c s) s ∙ ap (λ k. drop k s) (sym (front_then s))

    whole : prefix_len c name ≡ length name
    whole = (λ i. prefix_len c (p i)) ∙ all-front c c (λ b y. y) s ∙ sym (λ i. length (p i))

    none : prefix_len c others ≡ 0
    none = ap (prefix_len c) (r ∙ ap (front e) q) ∙ then_stops (past c s) (past_stops s)

    pub name_front : name ≡ front c (name ++ others)
    name_front = sym (front-append c name others whole none)

    pub name_past : others ≡ past c (name ++ others)
    name_past = sym (past-append c name others whole none)
