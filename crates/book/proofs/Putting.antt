-- Texts put into a room one after another.
use Rattle.std.proofs.Common.{◌≡◌, ℕ, ◌+◌, ◌≤◌, List, [], ◌∷◌, ◌++◌, length, take, drop, sym, refl, ap, ◌∙◌, subst, append_assoc, append-nil, arith, length-append, length-drop, length-take}
use Rattle.octets.specs.Buffers.{over}
use Rattle.octets.proofs.Puts.{over-over}
use Rattle.pages.specs.Outs.{Out}
use Rattle.book.specs.Lines.{bytes_text, out_text, outs_text}
use Rattle.book.specs.Putting.{Puts}

length_over : (at : ℕ) (out t : List ℕ) → at + length t ≤ length out → length (over at out t) ≡ length out
length_over at out t h =
    let a = length-append (take at out) (t ++ drop (at + length t) out) in
    let b = length-append t (drop (at + length t) out) in
    omega (arith, length-take at out, length-drop (at + length t) out)

-- one text, and then another that is known as v
pub puts_then : (at n r : ℕ) (t u v out mid end : List ℕ) → u ≡ v → Puts at t out n mid → Puts n u mid r end → Puts at (t ++ v) out r end
puts_then at n r t u v out mid end same first second fits =
    let long : length (t ++ v) ≡ length t + length u = length-append t v ∙ ap (λ l. length t + length l) (sym same) in
    let room : at + length t ≤ length out = omega arith in
    let a = first room in
    let kept : length mid ≡ length out = ap length a.1 ∙ length_over at out t room in
    let place : n ≡ at + length t = a.0 in
    let b = second (omega arith) in
    (omega (arith, b.0), b.1 ∙ (λ i. over (place i) (a.1 i) (same i)) ∙ over-over at out t v room)

-- the last of several texts, of which none follows
pub puts_last : (at r : ℕ) (t out end : List ℕ) → Puts at t out r end → Puts at (t ++ []) out r end
puts_last at r t out end puts = subst (λ (l : List ℕ). Puts at l out r end) (sym (append-nil t)) puts

-- what is let out, one after the other
pub outs-append : (xs ys : List Out) → outs_text (xs ++ ys) ≡ outs_text xs ++ outs_text ys
outs-append [] ys = refl
outs-append (x ∷ xs) ys = ap (λ l. out_text x ++ l) (outs-append xs ys) ∙ sym (append_assoc (out_text x) (outs_text xs) (outs_text ys))

-- bytes of a slice that are known as h
pub puts_same : (at r : ℕ) (slice h out end : List ℕ) → slice ≡ h → Puts at (bytes_text slice) out r end → Puts at (bytes_text h) out r end
puts_same at r slice h out end same puts = subst (λ (l : List ℕ). Puts at (bytes_text l) out r end) same puts

pub puts_bytes : (at n r : ℕ) (t slice h out mid end : List ℕ) → slice ≡ h → Puts at t out n mid → Puts n (bytes_text slice) mid r end → Puts at (t ++ bytes_text h) out r end
puts_bytes at n r t slice h out mid end same first second = puts_then at n r t (bytes_text slice) (bytes_text h) out mid end (ap bytes_text same) first second
