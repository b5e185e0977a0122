-- Pieces written one after another. Assumes nothing.
use Rattle.std.proofs.Common.{◌≡◌, ℕ, ◌+◌, ◌-◌, ◌<◌, ◌≤◌, true, cond, leb, List, [], ◌++◌, length, get_or, take, drop, Some, None, sym, refl, ap, ◌∙◌, append_assoc, add-zero, zero-add, arith, length-append, Bor}
use borrow.Rule.Slice.PartMut.{put_mid}
use Rattle.std.specs.List.{flat_map}
use Rattle.std.proofs.lemmas.List.{at_drop_more, take-append-drop, drop-drop}
use Rattle.std.proofs.lemmas.Slice.{take-put_mid, drop-put_mid}
use Rattle.std.proofs.lemmas.Bool.{cond-true, cond-false, lt-leb, leb-true}
use Rattle.std.proofs.lemmas.Bool.Decides.{nat_tests}
use Rattle.octets.specs.Buffers.{room_after, over, written}
use Rattle.octets.proofs.Options.{cond-some}

abbrev pub Pieces : Type 0
Pieces = List (Bor (List ℕ))

-- what pieces come to
abbrev pub text_of : Pieces → List ℕ
text_of ps = flat_map (λ x. x.now) ps

-- room for the first piece, and for the others
pub room-more : (p q : List ℕ) (room : ℕ) → length p ≤ room → room_after (p ++ q) room ≡ room_after q (room - length p)
room-more p q room h =
    let e = length-append p q in
    let test : leb (length (p ++ q)) room ≡ leb (length q) (room - length p) = grind (arith, nat_tests) in
    let left : room - length (p ++ q) ≡ room - length p - length q = omega arith in
    λ i. cond (test i) (Some (left i)) None

pub room-none : (p q : List ℕ) (room : ℕ) → room < length p → room_after (p ++ q) room ≡ None
room-none p q room h = cond-false _ _ _ (lt-leb (length (p ++ q)) room (omega (arith, length-append p q)))

pub room_fits : (t : List ℕ) (n k : ℕ) → Some k ≡ room_after t n → length t ≤ n
room_fits t n k e = leb-true (length t) n (cond-some (leb (length t) n) (Some (n - length t)) k (sym e)).0

-- one piece after another
pub over-more : (a : ℕ) (xs p t : List ℕ) → a + length p ≤ length xs → over (a + length p) (put_mid a (length p) xs p) t ≡ over a xs (p ++ t)
over-more a xs p t h =
    let front : take (a + length p) (put_mid a (length p) xs p) ≡ take a xs ++ p = take-put_mid a (length p) xs p (a + length p) refl (omega arith) in
    let back : drop (a + length p + length t) (put_mid a (length p) xs p) ≡ drop (a + length p + length t) xs = drop-put_mid a (length p) xs p (a + length p + length t) (omega arith) (omega arith) refl in
    let place : a + length p + length t ≡ a + length (p ++ t) = omega (arith, length-append p t) in
    (λ i. front i ++ (t ++ back i)) ∙ append_assoc (take a xs) p (t ++ drop (a + length p + length t) xs) ∙ ap (λ l. take a xs ++ l) (sym (append_assoc p t (drop (a + length p + length t) xs))) ∙ ap (λ n. take a xs ++ ((p ++ t) ++ drop n xs)) place

-- one text after another
pub over-over : (a : ℕ) (xs p t : List ℕ) → a + length p ≤ length xs → over (a + length p) (over a xs p) t ≡ over a xs (p ++ t)
over-over a xs p t h = ap (λ l. over (a + length p) (take a xs ++ (p ++ l)) t) (sym (drop-drop (length p) a xs)) ∙ over-more a xs p t h

pub over_none : (a : ℕ) (xs : List ℕ) → over a xs [] ≡ xs
over_none a xs = ap (λ n. take a xs ++ drop n xs) (add-zero a) ∙ take-append-drop a xs

-- what fits is written, from the front on
pub over-written : (t out : List ℕ) → leb (length t) (length out) ≡ true → over 0 out t ≡ written t out
over-written t out fits = ap (λ n. t ++ drop n out) (zero-add (length t)) ∙ sym (cond-true _ _ _ fits)

-- what the checker reads past the end of the pieces
abbrev pub nil : Bor (List ℕ)
nil = record { ref_ptr = (0, 0); now = [] }

pub text_more : (ps : Pieces) (i : ℕ) → i < length ps → text_of (drop i ps) ≡ (get_or ps i nil).now ++ text_of (drop (i + 1) ps)
text_more ps i h = at_drop_more text_of ps i nil h

pub text_long : (ps : Pieces) (i : ℕ) → i < length ps → length (text_of (drop i ps)) ≡ length (get_or ps i nil).now + length (text_of (drop (i + 1) ps))
text_long ps i h = ap length (text_more ps i h) ∙ length-append (get_or ps i nil).now (text_of (drop (i + 1) ps))
