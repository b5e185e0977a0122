-- What the code's reader found, and what is still to be read.
use Rattle.std.specs.Prelude.{ℕ, List}
use Rattle.words.specs.declared.scan.Scanner.{Scanner}
use Rattle.book.specs.declared.read.Line.{Line}
use Rattle.book.specs.Records.{Entry, entry_of}

-- What a scanner has still to read.
abbrev pub rest_of : Scanner → List ℕ
rest_of s = s.rest.now

-- The number of an event, and its entry.
abbrev pub line_of : Line → ℕ × Entry
line_of l = (l.number, entry_of l.record)
