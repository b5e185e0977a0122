use Rattle.std.proofs.Common.{sym, ◌∙◌}
use Rattle.std.specs.Cmp.Derive.Mapped.{pointwise-map}
use Rattle.bounded.specs.Fixed.{items_of}
use Rattle.windows.specs.Queues.{word_of, same_words}
use Rattle.windows.proofs.Same.{words_decide, maps_decide}
use Rattle.windows.proofs.queue.words.QueuePartialEq.eq.Goals as goal

pub returns-clause-is : goal.returns-clause-is
returns-clause-is c =
    let a = c.args.self.now in
    let b = c.args.other.now in
    c.eq.ensures ∙ sym (pointwise-map word_of same_words (items_of a.words) (items_of b.words))

pub returns-clause-same : goal.returns-clause-same
returns-clause-same c =
    let a = c.args.self.now in
    let b = c.args.other.now in
    maps_decide word_of same_words words_decide (items_of a.words) (items_of b.words) _ c.eq.ensures
