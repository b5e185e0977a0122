-- A text cut line by line.
use Rattle.std.proofs.Common.{◌≡◌, ℕ, suc, ◌+◌, ◌<◌, false, eqb, List, [], ◌∷◌, length, take, drop, sym, refl, ap, ◌∙◌, ⊎_elim, one-add, arith}
use Rattle.std.specs.List.{prefix_len}
use Rattle.std.proofs.lemmas.Bool.{cond-true, cond-false, cases_Bool, not-true, not-false, eqb-false}
use Rattle.octets.specs.declared.Class.TheVariants.{Line}
use Rattle.octets.specs.Classes.{has}
use Rattle.octets.specs.Fronts.{front, past}
use Rattle.assembler.specs.Texts.{grown, lines}

-- what follows the first line
abbrev pub rest_of : List ℕ → List ℕ
rest_of s = drop 1 (past (has Line) s)

-- one byte more before a line
grown_line : (b : ℕ) (s : List ℕ) → ((d : ℕ) (t : List ℕ) → s ≡ d ∷ t → lines s ≡ front (has Line) s ∷ lines (rest_of s)) → grown b (lines s) ≡ (b ∷ front (has Line) s) ∷ lines (rest_of s)
grown_line b [] h = refl
grown_line b (d ∷ s) h = ap (grown b) (h d s refl)

-- a text that is not empty has a first line
pub lines_cut : (s : List ℕ) (b : ℕ) (t : List ℕ) → s ≡ b ∷ t → lines s ≡ front (has Line) s ∷ lines (rest_of s)
lines_cut [] b t e = let z : ◌≡◌ {A = ℕ} 0 (suc (length t)) = ap length e in absurd (omega arith)
lines_cut (b ∷ s) d t e =
    ⊎_elim
    (λ y. let n : prefix_len (has Line) (b ∷ s) ≡ suc (prefix_len (has Line) s) = cond-true _ (1 + prefix_len (has Line) s) 0 y ∙ one-add _ in
    cond-false _ _ _ (not-true (eqb b 10) y) ∙ grown_line b s (lines_cut s) ∙ sym (λ i. take (n i) (b ∷ s) ∷ lines (drop 1 (drop (n i) (b ∷ s)))))
    (λ y. let n : prefix_len (has Line) (b ∷ s) ≡ 0 = cond-false _ (1 + prefix_len (has Line) s) 0 y in
    cond-true _ _ _ (not-false (eqb b 10) y) ∙ sym (λ i. take (n i) (b ∷ s) ∷ lines (drop 1 (drop (n i) (b ∷ s)))))
    (cases_Bool (has Line b))

-- the same, by what stands behind the first line
pub cut_lines : (s line end rest : List ℕ) → eqb (length s) 0 ≡ false → line ≡ front (has Line) s → end ≡ past (has Line) s → rest ≡ drop 1 end → lines s ≡ line ∷ lines rest
cut_lines [] line end rest t e f g = absurd (omega (arith, eqb-false 0 0 t))
cut_lines (b ∷ s) line end rest t e f g = lines_cut (b ∷ s) b s refl ∙ sym (λ i. e i ∷ lines ((g ∙ ap (drop 1) f) i))

-- nothing stands behind a text without bytes
pub none_behind : (end : List ℕ) → length end < 1 → end ≡ drop 1 end
none_behind [] h = refl
none_behind (b ∷ end) h = absurd (omega arith)
