-- The words that wait for a window.
use Rattle.std.specs.Prelude.{Bool, cond, nat_eq, List, [], ◌∷◌, ◌++◌, map, length, Some, None, Option, nat_lt}
use Rattle.std.specs.Ordering.{on, eq_of_both}
use Rattle.std.specs.Cmp.Lexicographic.{pointwise}
use Rattle.bounded.specs.Fixed.{items_of}
use Rattle.bounded.specs.Texts.{text_of}
use Rattle.bounded.specs.Numbers.{number_of}
use Rattle.pages.specs.Browser.{Word, most_words}
use Rattle.windows.specs.declared.queue.Word.{Word as WordHere}
use Rattle.windows.specs.declared.queue.Queue.{Queue}

-- A word: of which site, and what.
abbrev pub word_of : WordHere → Word
word_of word = record { from = number_of word.from; what = text_of word.text }

-- Are two words the same: of the same site, with the same bytes?
abbrev pub same_words : Word → Word → Bool
same_words = eq_of_both (on (λ word. word.from) nat_eq) (on (λ word. word.what) (pointwise nat_eq))

-- The words in a queue, the oldest first.
abbrev pub words_of : Queue → List Word
words_of q = map word_of (items_of q.words)

-- One word more, if there is room.
abbrev pub appended : Word → List Word → List Word
appended word words = cond (nat_lt (length words) most_words) (words ++ (word ∷ [])) words

-- The oldest word, if one waits.
abbrev pub oldest : List Word → Option Word
oldest [] = None
oldest (word ∷ words) = Some word
