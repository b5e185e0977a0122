-- The line of an event: its words, each behind a space, and a newline.
use Rattle.std.specs.Prelude.{ℕ, List, [], ◌∷◌, ◌++◌, Some, None, codes, decimal, Option}
use Rattle.pages.specs.Browser.{Event, Opening, TurnOf}
use Rattle.pages.specs.Outs.{What, Asked, Said, Opened, Let, Out}
use Rattle.words.specs.Hex.{hex_of}
use Rattle.book.specs.Records.{Entry}

-- Bytes: two hex digits each, behind an `x`.
abbrev pub bytes_text : List ℕ → List ℕ
bytes_text bs = codes " x" ++ hex_of bs

-- What happened.
abbrev pub event_text : Event → List ℕ
event_text (Opening t h) = (codes " open " ++ decimal t) ++ bytes_text h
event_text (TurnOf i) = codes " turn " ++ decimal i

-- The site of the window, or a dash where there is no such window.
abbrev pub site_text : Option ℕ → List ℕ
site_text None = codes " -"
site_text (Some t) = codes " " ++ decimal t

-- What is let out to a site.
abbrev pub what_text : ℕ → What → List ℕ
what_text t (Asked h d) = (codes " asks " ++ decimal t) ++ (bytes_text h ++ bytes_text d)
what_text t (Said j d) = (codes " says " ++ decimal t) ++ ((codes " " ++ decimal j) ++ bytes_text d)
what_text t (Opened h) = (codes " opens " ++ decimal t) ++ bytes_text h
what_text t (Let c d) = (codes " lets " ++ decimal t) ++ ((codes " " ++ decimal c) ++ bytes_text d)

-- Who lets it out, behind a bar.
abbrev pub out_text : Out → List ℕ
out_text o = (codes " | " ++ decimal o.from) ++ what_text o.to o.what

-- One after another.
abbrev pub outs_text : List Out → List ℕ
outs_text [] = []
outs_text (o ∷ os) = out_text o ++ outs_text os

-- THE LINE of the n-th event.
abbrev pub line_text : ℕ → Entry → List ℕ
line_text n e = decimal n ++ (event_text e.event ++ (site_text e.site ++ ((codes " " ++ decimal e.fault) ++ (outs_text e.outs ++ codes "\n"))))
