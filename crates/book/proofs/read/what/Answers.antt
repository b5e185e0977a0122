use Rattle.std.proofs.Common.{None, codes, sym, refl, ◌∙◌}
use Rattle.octets.specs.Fronts.{after}
use Rattle.bounded.specs.Numbers.{number_of}
use Rattle.book.specs.Reading.{by_word, asks_then, says_then, opens_then, lets_then}
use Rattle.book.specs.Found.{rest_of}
use Rattle.book.proofs.Skips.{skipped-none, other_word}
use Rattle.book.proofs.read.what.Goals as goal

pub returns : goal.returns
returns c =
    let f = number_of c.args.from in
    let s = rest_of c.args.text.now in
    let s1 = rest_of c.skip.new.self in
    let s2 = rest_of c.skip-2.new.self in
    let s3 = rest_of c.skip-3.new.self in
    let one = skipped-none (codes " asks ") s s1 (sym c.if-skip.ensures.is) c.skip.ensures.left in
    let two = skipped-none (codes " says ") s1 s2 (sym c.if-skip-2.ensures.is) c.skip-2.ensures.left ∙ one in
    let three = skipped-none (codes " opens ") s2 s3 (sym c.if-skip-3.ensures.is) c.skip-3.ensures.left ∙ two in
    sym (
    other_word (codes " asks ") s s (asks_then f) (λ t. by_word (after (codes " says ") t) (says_then f) (by_word (after (codes " opens ") t) (opens_then f) (by_word (after (codes " lets ") t) (lets_then f) None))) refl (sym c.if-skip.ensures.is)
    ∙ other_word (codes " says ") s s1 (says_then f) (λ t. by_word (after (codes " opens ") t) (opens_then f) (by_word (after (codes " lets ") t) (lets_then f) None)) one (sym c.if-skip-2.ensures.is)
    ∙ other_word (codes " opens ") s s2 (opens_then f) (λ t. by_word (after (codes " lets ") t) (lets_then f) None) two (sym c.if-skip-3.ensures.is)
    ∙ other_word (codes " lets ") s s3 (lets_then f) (λ _. None) three (sym c.if-skip-4.ensures.is))
