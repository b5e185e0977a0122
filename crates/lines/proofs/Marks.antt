-- Names that are marked, so that a name without a mark is new. Assumes nothing.
use Rattle.std.proofs.Common.{◌≡◌, ℕ, suc, ◌+◌, ◌*◌, ◌%◌, ◌<◌, Bool, true, false, ◌||◌, eqb, List, [], ◌∷◌, ◌++◌, length, get_or, set, sym, refl, ap, ◌∙◌, ⊎_elim, arith, get_or-set_other, get_or-set_same}
use Rattle.std.proofs.lemmas.Bool.{and_parts, eqb-true, cases_Bool, cases_eq, true≢false}
use Rattle.lines.specs.Lines.{small, same_name, among, slot, names_of}
use Rattle.lines.proofs.Names.{name_length}

-- all forms of a name have one slot
slot_same : (x y : List ℕ) → same_name x y ≡ true → slot x ≡ slot y
slot_same [] [] e = refl
slot_same [] (y ∷ ys) e = absurd (true≢false (sym e))
slot_same (x ∷ xs) [] e = absurd (true≢false (sym e))
slot_same (x ∷ xs) (y ∷ ys) e =
    let p = and_parts (eqb (small x) (small y)) (same_name xs ys) e in
    let first : small x ≡ small y = eqb-true (small x) (small y) p.0 in
    let long : length (x ∷ xs) ≡ length (y ∷ ys) = ap suc (name_length xs ys p.1) in
    λ i. (long i % 128 * 33 + first i) % 128

-- a name whose slot has no mark is none of the names
abbrev pub Marked : List Bool → List (List ℕ) → Type 0
Marked marks names = (x : List ℕ) → get_or marks (slot x) false ≡ false → among x names ≡ false

pub none_named : (s x : List ℕ) → among x (names_of 0 s) ≡ false
unfolding names_of
none_named s x = refl

among_push : (x y : List ℕ) (names : List (List ℕ)) → among x names ≡ false → same_name x y ≡ false → among x (names ++ (y ∷ [])) ≡ false
among_push x y [] p q = ap (λ b. b || false) q
among_push x y (n ∷ names) p q =
    ⊎_elim
    (λ t. absurd (true≢false (sym (ap (λ b. b || among x names) t) ∙ p)))
    (λ f. ap (λ b. b || among x (names ++ (y ∷ []))) f ∙ among_push x y names (sym (ap (λ b. b || among x names) f) ∙ p) q)
    (cases_Bool (same_name x n))

-- one name more is marked
mark_more : (marks : List Bool) (names : List (List ℕ)) (name : List ℕ) → Marked marks names → slot name < length marks → Marked (set marks (slot name) true) (names ++ (name ∷ []))
mark_more marks names name so within x h =
    ⊎_elim
    (λ e. absurd (true≢false (sym (get_or-set_same marks (slot name) true false within) ∙ sym (ap (λ i. get_or (set marks (slot name) true) i false) e) ∙ h)))
    (λ apart. among_push x name names (so x (sym (get_or-set_other marks (slot name) (slot x) true false apart) ∙ h)) (⊎_elim (λ t. absurd (apart (slot_same x name t))) (λ f. f) (cases_Bool (same_name x name))))
    (cases_eq (slot x) (slot name))

pub marked_push : (marks : List Bool) (k : ℕ) (s name : List ℕ) (at : ℕ) → Marked marks (names_of k s) → at ≡ slot name → at < length marks → names_of (k + 1) s ≡ names_of k s ++ (name ∷ []) → Marked (set marks at true) (names_of (k + 1) s)
marked_push marks k s name at so e within push x h =
    ap (among x) push ∙ mark_more marks (names_of k s) name so (omega arith) x (sym (ap (λ i. get_or (set marks i true) (slot x) false) e) ∙ h)
