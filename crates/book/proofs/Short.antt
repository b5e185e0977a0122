-- No line is longer than its bound.
use Rattle.std.proofs.Common.{ℕ, ◌*◌, ◌^◌, ◌<◌, ◌≤◌, List, [], ◌∷◌, ◌++◌, length, Some, None, codes, decimal, Option, arith, length-append}
use Rattle.std.specs.List.{AllByRecursion}
use Rattle.std.proofs.lemmas.Fmt.{length-decimal-le}
use Rattle.pages.specs.Browser.{Event, Opening, TurnOf}
use Rattle.pages.specs.Outs.{What, Asked, Said, Opened, Let, Out}
use Rattle.words.specs.Hex.{hex_of}
use Rattle.words.proofs.Hexes.{length_hex}
use Rattle.book.specs.Records.{Entry}
use Rattle.book.specs.Lines.{bytes_text, event_text, site_text, what_text, out_text, outs_text, line_text}
use Rattle.book.specs.Ranges.{EventIn, SiteIn, WhatIn, OutIn, InRange}

site_digits : (t : ℕ) → t < 16 → length (decimal t) ≤ 2
site_digits t h = length-decimal-le 2 t (omega arith) (omega arith) (omega arith)

window_digits : (i : ℕ) → i < 2 ^ 32 → length (decimal i) ≤ 10
window_digits i h = length-decimal-le 10 i (omega arith) (omega arith) (omega arith)

event_short : (e : Event) → EventIn e → length (event_text e) ≤ 520
event_short (Opening t h) r = omega (arith, length-append (decimal t) (bytes_text h), length_hex h, site_digits t r.0, r.1.0)
event_short (TurnOf i) r = omega (arith, window_digits i r)

site_short : (s : Option ℕ) → SiteIn s → length (site_text s) ≤ 3
site_short None r = omega arith
site_short (Some t) r = omega (arith, site_digits t r)

what_short : (t : ℕ) (w : What) → t < 16 → WhatIn w → length (what_text t w) ≤ 8208
what_short t (Asked h d) l r = omega (arith, length-append (decimal t) (bytes_text h ++ bytes_text d), length-append (hex_of h) (bytes_text d), length_hex h, length_hex d, site_digits t l, r.0.0, r.1.0)
what_short t (Said j d) l r = omega (arith, length-append (decimal t) ((codes " " ++ decimal j) ++ bytes_text d), length-append (decimal j) (bytes_text d), length_hex d, site_digits t l, window_digits j r.0, r.1.0)
what_short t (Opened h) l r = omega (arith, length-append (decimal t) (bytes_text h), length_hex h, site_digits t l, r.0)
what_short t (Let c d) l r =
    let code : length (decimal c) ≤ 5 = length-decimal-le 5 c (omega arith) (omega (arith, r.0)) (omega (arith, r.0)) in
    omega (arith, length-append (decimal t) ((codes " " ++ decimal c) ++ bytes_text d), length-append (decimal c) (bytes_text d), length_hex d, site_digits t l, r.1.0)

outs_short : (os : List Out) → AllByRecursion OutIn os → length (outs_text os) ≤ 8213 * length os
outs_short [] r = omega arith
outs_short (o ∷ os) r =
    let w = what_text o.to o.what in
    omega (arith, length-append (out_text o) (outs_text os), length-append (decimal o.from) w, site_digits o.from r.0.0, what_short o.to o.what r.0.1 r.0.2, outs_short os r.1)

pub line_short : (n : ℕ) (e : Entry) → n < 2 ^ 64 → InRange e → length (line_text n e) ≤ 17000
line_short n e f r =
    let fault : length (decimal e.fault) ≤ 3 = length-decimal-le 3 e.fault (omega arith) (omega (arith, r.fault)) (omega (arith, r.fault)) in
    let number : length (decimal n) ≤ 20 = length-decimal-le 20 n (omega arith) (omega arith) f in
    let E = event_text e.event in
    let S = site_text e.site in
    let F = codes " " ++ decimal e.fault in
    let O = outs_text e.outs in
    let N = codes "\n" in
    omega (arith, length-append (decimal n) (E ++ (S ++ (F ++ (O ++ N)))), length-append E (S ++ (F ++ (O ++ N))), length-append S (F ++ (O ++ N)), length-append (decimal e.fault) (O ++ N), length-append O N, event_short e.event r.event, site_short e.site r.site, outs_short e.outs r.outs, r.few)
