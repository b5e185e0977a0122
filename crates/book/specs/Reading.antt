-- Lines of the book, read: each reader gives what it found and what follows.
use Rattle.std.specs.Prelude.{ℕ, List, [], ◌∷◌, ◌++◌, Some, None, codes, Option}
use Rattle.octets.specs.Fronts.{and_then, after}
use Rattle.pages.specs.Browser.{Event, Opening, TurnOf}
use Rattle.pages.specs.Outs.{Asked, Said, Opened, Let, Out, out}
use Rattle.words.specs.Numerals.{number_after}
use Rattle.words.specs.Hex.{bytes_after}
use Rattle.book.specs.Records.{Entry}

-- What a reader finds behind a word, if the word stands there; or else this.
abbrev pub by_word : {A : Type 0} → Option (List ℕ) → (List ℕ → Option A) → Option A → Option A
by_word (Some t) read other = read t
by_word None read other = other

-- The number of a site, which is below 16.
abbrev pub site_after : List ℕ → List ℕ → Option (ℕ × List ℕ)
site_after word s = number_after word 15 s

-- At most n bytes.
abbrev pub bytes_then : ℕ → List ℕ → Option (List ℕ × List ℕ)
bytes_then n s = bytes_after (codes " x") n s

-- A turn of a window.
abbrev pub turn_then : List ℕ → Option (Event × List ℕ)
turn_then s = and_then (number_after [] 4294967295 s) (λ i. Some (TurnOf i.0, i.1))

-- An opening by the settings.
abbrev pub open_then : List ℕ → Option (Event × List ℕ)
open_then s = and_then (site_after [] s) (λ t. and_then (bytes_then 255 t.1) (λ h. Some (Opening t.0 h.0, h.1)))

-- What happened.
abbrev pub event_then : List ℕ → Option (Event × List ℕ)
event_then s = by_word (after (codes " turn ") s) turn_then (by_word (after (codes " open ") s) open_then None)

-- The site of the window, or a dash where there is no such window.
abbrev pub window_then : List ℕ → Option (Option ℕ × List ℕ)
window_then s = by_word (after (codes " -") s) (λ t. Some (None, t)) (and_then (site_after (codes " ") s) (λ t. Some (Some t.0, t.1)))

-- What a page of site f asks another site's server.
abbrev pub asks_then : ℕ → List ℕ → Option (Out × List ℕ)
asks_then f s = and_then (site_after [] s) (λ t. and_then (bytes_then 255 t.1) (λ h. and_then (bytes_then 1024 h.1) (λ d. Some (out f t.0 (Asked h.0 d.0), d.1))))

-- What a page of site f says to a window of another site.
abbrev pub says_then : ℕ → List ℕ → Option (Out × List ℕ)
says_then f s = and_then (site_after [] s) (λ t. and_then (number_after (codes " ") 4294967295 t.1) (λ j. and_then (bytes_then 1024 j.1) (λ d. Some (out f t.0 (Said j.0 d.0), d.1))))

-- That a page of site f opens a window.
abbrev pub opens_then : ℕ → List ℕ → Option (Out × List ℕ)
opens_then f s = and_then (site_after [] s) (λ t. and_then (bytes_then 255 t.1) (λ h. Some (out f t.0 (Opened h.0), h.1)))

-- What the server of site f lets another site's page see.
abbrev pub lets_then : ℕ → List ℕ → Option (Out × List ℕ)
lets_then f s = and_then (site_after [] s) (λ t. and_then (number_after (codes " ") 65535 t.1) (λ c. and_then (bytes_then 4096 c.1) (λ d. Some (out f t.0 (Let c.0 d.0), d.1))))

-- What this site lets out.
abbrev pub what_then : ℕ → List ℕ → Option (Out × List ℕ)
what_then f s = by_word (after (codes " asks ") s) (asks_then f) (by_word (after (codes " says ") s) (says_then f) (by_word (after (codes " opens ") s) (opens_then f) (by_word (after (codes " lets ") s) (lets_then f) None)))

-- One thing that is let out.
abbrev pub out_then : List ℕ → Option (Out × List ℕ)
out_then s = and_then (site_after [] s) (λ f. what_then f.0 f.1)

-- What stands behind a bar, if there is one.
abbrev pub up_to_one : List ℕ → Option (List Out × List ℕ)
up_to_one s = by_word (after (codes " | ") s) (λ t. and_then (out_then t) (λ o. Some (o.0 ∷ [], o.1))) (Some ([], s))

-- At most two.
abbrev pub outs_then : List ℕ → Option (List Out × List ℕ)
outs_then s = and_then (up_to_one s) (λ a. and_then (up_to_one a.1) (λ b. Some (a.0 ++ b.0, b.1)))

-- The entry of an event, from its first word to its newline.
abbrev pub entry_then : List ℕ → Option (Entry × List ℕ)
entry_then s = and_then (event_then s) (λ e. and_then (window_then e.1) (λ w. and_then (number_after (codes " ") 255 w.1) (λ f. and_then (outs_then f.1) (λ o.
    and_then (after (codes "\n") o.1) (λ rest. Some (record { event = e.0; site = w.0; fault = f.0; outs = o.0 }, rest))))))

-- THE LINE at the front of a text: the event's number and its entry, and what follows the line.
abbrev pub read_line : List ℕ → Option ((ℕ × Entry) × List ℕ)
read_line s = and_then (number_after [] 18446744073709551615 s) (λ n. and_then (entry_then n.1) (λ e. Some ((n.0, e.0), e.1)))
