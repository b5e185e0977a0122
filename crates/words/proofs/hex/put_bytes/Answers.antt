use Rattle.std.proofs.Common.{◌≡◌, ◌+◌, ◌-◌, ◌/◌, ◌%◌, ◌<◌, ◌≤◌, [], ◌∷◌, ◌++◌, length, get_or, drop, Some, sym, refl, ap, ◌∙◌, arith, length-append, length-drop}
use borrow.Rule.Slice.PartMut.{put_mid, same_len_mid}
use Rattle.std.proofs.lemmas.List.{at_drop_more, at_drop_all}
use Rattle.std.proofs.lemmas.Bool.{cond-true, le-leb}
use Rattle.octets.specs.Buffers.{over}
use Rattle.octets.proofs.Puts.{over-more, over_none}
use Rattle.words.specs.Hex.{hex_of, hex_digit}
use Rattle.words.proofs.Hexes.{length_hex, too_long, all-bytes}
use Rattle.words.proofs.hex.put_bytes.Goals as goal
use Rattle.words.proofs.hex.put_bytes.Goals.{then-word-room-via-then-word-room, then-word-room-via-else-word-room+then-bytes-room}

pub returns-then-word-room : goal.returns-then-word-room
returns-then-word-room c =
    let w = c.args.word.now in
    let bs = c.args.bytes.now in
    let out = c.args.out.now in
    let long = length-append w (hex_of bs) in
    let hex = length_hex bs in
    let room = c.in_ok-room.ensures in
    let h : length out < c.args.from + length (w ++ hex_of bs) =
    elim c.then-word-room.branch [ then-word-room-via-then-word-room x ↦ omega (arith, x.if-word-room.true) | then-word-room-via-else-word-room+then-bytes-room x ↦ omega (arith, x.if-word-room.false, x.if-bytes-room.true) ] in
    let no = too_long c.args.from (w ++ hex_of bs) out h in
    record { answer = no.0; after = no.1; bytes = all-bytes bs c.type_inv.bytes }

pub loop-b-init : goal.loop-b-init
loop-b-init c =
    let w = c.args.word.now in
    let kept = same_len_mid c.args.from (c.args.from + length w - c.args.from) c.args.out.now c.copy_from_slice.new.self c.copy_from_slice.ensures.len in
    (refl, refl, omega (arith, c.in_ok-room.ensures, length_hex c.args.bytes.now))

pub slice_bounds-copy_from_slice-end-in-loop-b : goal.slice_bounds-copy_from_slice-end-in-loop-b
slice_bounds-copy_from_slice-end-in-loop-b c =
    let bs = c.args.bytes.now in
    omega (arith, c.loop-b.invariant.1, c.loop-b.invariant.2, length_hex (drop c.loop-b.b-index bs), length-drop c.loop-b.b-index bs)

pub loop-b-preserved : goal.loop-b-preserved
loop-b-preserved c =
    let i = c.loop-b.invariant in
    let at = c.loop-b.at in
    let bs = c.args.bytes.now in
    let n = c.loop-b.b-index in
    let b = get_or bs n 0 in
    let p = hex_digit (b / 16) ∷ (hex_digit (b % 16) ∷ []) in
    let t = hex_of (drop (n + 1) bs) in
    let more : hex_of (drop n bs) ≡ p ++ t = at_drop_more hex_of bs n 0 c.loop-b-test.true in
    let long = ap length more in
    let k : length p ≡ at + 2 - at = omega arith in
    let h : at + length p ≤ length c.loop-b.out = omega (arith, i.1, i.2, long) in (
      i.0
          ∙ ap (over at c.loop-b.out) more
          ∙ sym (over-more at c.loop-b.out p t h)
          ∙ (λ j. over (at + 2) (put_mid at (k j) c.loop-b.out (sym (c.copy_from_slice-in-loop-b.ensures.after ∙ c.pair_of.ensures) j)) t),
      omega (arith, i.1, long),
      i.2,
    )

pub returns : goal.returns
returns c =
    let i = c.loop-b.invariant in
    let from = c.args.from in
    let w = c.args.word.now in
    let bs = c.args.bytes.now in
    let out = c.args.out.now in
    let hex = length_hex bs in
    let long = length-append w (hex_of bs) in
    let none : hex_of (drop c.loop-b.b-index bs) ≡ [] = at_drop_all hex_of bs c.loop-b.b-index c.loop-b-test.false in
    let kept = same_len_mid from (from + length w - from) out c.copy_from_slice.new.self c.copy_from_slice.ensures.len in
    let room : from + length (w ++ hex_of bs) ≤ length out = omega (arith, i.2, kept, long) in
    let fits = le-leb (from + length (w ++ hex_of bs)) (length out) room in
    let whole : c.loop-b.at ≡ from + length (w ++ hex_of bs) = omega (arith, i.1, ap length none, long) in
    let k : length w ≡ from + length w - from = omega arith in
    let start : over (from + length w) (put_mid from (from + length w - from) out c.copy_from_slice.new.self) (hex_of bs) ≡ over from out (w ++ hex_of bs) =
    sym (λ j. over (from + length w) (put_mid from (k j) out (sym c.copy_from_slice.ensures.after j)) (hex_of bs)) ∙ over-more from out w (hex_of bs) (omega (arith, room, long)) in
    record {
      answer = ap Some whole ∙ sym (cond-true _ _ _ fits);
      after = sym (over_none c.loop-b.at c.loop-b.out) ∙ sym (ap (over c.loop-b.at c.loop-b.out) none) ∙ sym i.0 ∙ start ∙ sym (cond-true _ _ _ fits);
      bytes = all-bytes bs c.type_inv.bytes;
    }
