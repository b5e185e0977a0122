-- A line that was written is read back.
use Rattle.std.proofs.Common.{◌≡◌, ℕ, suc, ◌+◌, ◌^◌, ◌<◌, ◌≤◌, leb, List, [], ◌∷◌, ◌++◌, length, Some, None, codes, decimal, Option, sym, refl, ap, ◌∙◌, ⊎_elim, append_assoc, append-nil, arith}
use Rattle.std.specs.List.{prefix_len, AllByRecursion}
use Rattle.std.proofs.lemmas.Bool.{cond-true, cond-false, cases_Bool, ne_eqb, leb-true, and_parts, or_left}
use Rattle.std.proofs.lemmas.Fmt.{decimal_nonempty}
use Rattle.octets.specs.Classes.{is_digit}
use Rattle.octets.specs.Fronts.{and_then, after}
use Rattle.octets.proofs.Numbers.{number-decimal, number_digits}
use Rattle.pages.specs.Browser.{Event, Opening, TurnOf}
use Rattle.pages.specs.Outs.{What, Asked, Said, Opened, Let, Out, out}
use Rattle.words.specs.Hex.{is_hex}
use Rattle.words.specs.Numerals.{number_after}
use Rattle.words.proofs.Back.{number_back, bytes_back}
use Rattle.book.specs.Records.{Entry}
use Rattle.book.specs.Lines.{bytes_text, event_text, site_text, what_text, out_text, outs_text, line_text}
use Rattle.book.specs.Reading.{by_word, site_after, bytes_then, open_then, event_then, window_then, asks_then, says_then, opens_then, lets_then, what_then, out_then, up_to_one, outs_then, entry_then, read_line}
use Rattle.book.specs.Ranges.{BytesIn, EventIn, SiteIn, WhatIn, OutIn, InRange}

-- what ends bytes ends numbers
digits_stop : (s : List ℕ) → prefix_len is_hex s ≡ 0 → prefix_len is_digit s ≡ 0
digits_stop [] e = refl
digits_stop (b ∷ s) e =
    ⊎_elim
    (λ y. let z : 1 + prefix_len is_hex s ≡ 0 = sym (cond-true (is_hex b) (1 + prefix_len is_hex s) 0 (or_left (is_digit b) _ y)) ∙ e in absurd (omega arith))
    (λ n. cond-false (is_digit b) (1 + prefix_len is_digit s) 0 n)
    (cases_Bool (is_digit b))

site_back : (word : List ℕ) (t : ℕ) (rest : List ℕ) → t < 16 → prefix_len is_digit rest ≡ 0 → site_after word ((word ++ decimal t) ++ rest) ≡ Some (t, rest)
site_back word t rest l stops = number_back word 15 t rest (omega arith) (omega arith) stops

text_back : (n : ℕ) (bs rest : List ℕ) → BytesIn n bs → prefix_len is_hex rest ≡ 0 → bytes_then n (bytes_text bs ++ rest) ≡ Some (bs, rest)
text_back n bs rest r stops = bytes_back (codes " x") n bs rest r.1 r.0 stops

event_back : (e : Event) (rest : List ℕ) → EventIn e → prefix_len is_hex rest ≡ 0 → event_then (event_text e ++ rest) ≡ Some (e, rest)
event_back (Opening t h) rest r stops =
    ap open_then (append_assoc (decimal t) (bytes_text h) rest)
    ∙ ap (λ o. and_then o (λ t. and_then (bytes_then 255 t.1) (λ h. Some (Opening t.0 h.0, h.1)))) (site_back [] t (bytes_text h ++ rest) r.0 refl)
    ∙ ap (λ o. and_then o (λ h. Some (Opening t h.0, h.1))) (text_back 255 h rest r.1 stops)
event_back (TurnOf i) rest r stops = ap (λ o. and_then o (λ i. Some (TurnOf i.0, i.1))) (number_back [] 4294967295 i rest (omega arith) (omega arith) (digits_stop rest stops))

-- a digit is no dash
no_dash : (ds rest : List ℕ) → prefix_len is_digit ds ≡ length ds → 0 < length ds → after (codes "-") (ds ++ rest) ≡ None
no_dash [] rest e some = absurd (omega arith)
no_dash (d ∷ ds) rest e some =
    ⊎_elim
    (λ y. let low = leb-true 48 d (and_parts (leb 48 d) (leb d 57) y).0 in cond-false _ _ _ (ne_eqb 45 d (λ q. omega arith)))
    (λ n. let z : 0 ≡ suc (length ds) = sym (cond-false (is_digit d) (1 + prefix_len is_digit ds) 0 n) ∙ e in absurd (omega arith))
    (cases_Bool (is_digit d))

window_back : (s : Option ℕ) (rest : List ℕ) → SiteIn s → prefix_len is_digit rest ≡ 0 → window_then (site_text s ++ rest) ≡ Some (s, rest)
window_back None rest r stops = refl
window_back (Some t) rest r stops =
    let f : t < 2 ^ 64 = omega arith in
    let digits = number_digits t 0 t (decimal t) (number-decimal t t (omega arith) f) in
    ap (λ o. by_word o (λ u. Some (None, u)) (and_then (site_after (codes " ") (site_text (Some t) ++ rest)) (λ u. Some (Some u.0, u.1)))) (no_dash (decimal t) rest digits (decimal_nonempty t f))
    ∙ ap (λ o. and_then o (λ u. Some (Some u.0, u.1))) (site_back (codes " ") t rest r stops)

-- what is let out by site f to site t
module _ (f t : ℕ) (small : t < 16) (rest : List ℕ) (stops : prefix_len is_hex rest ≡ 0) where
  what_back : (w : What) → WhatIn w → what_then f (what_text t w ++ rest) ≡ Some (out f t w, rest)
  what_back (Asked h d) r =
      ap (asks_then f) (append_assoc (decimal t) (bytes_text h ++ bytes_text d) rest ∙ ap (λ l. decimal t ++ l) (append_assoc (bytes_text h) (bytes_text d) rest))
      ∙ ap (λ o. and_then o (λ t. and_then (bytes_then 255 t.1) (λ h. and_then (bytes_then 1024 h.1) (λ d. Some (out f t.0 (Asked h.0 d.0), d.1))))) (site_back [] t (bytes_text h ++ (bytes_text d ++ rest)) small refl)
      ∙ ap (λ o. and_then o (λ h. and_then (bytes_then 1024 h.1) (λ d. Some (out f t (Asked h.0 d.0), d.1)))) (text_back 255 h (bytes_text d ++ rest) r.0 refl)
      ∙ ap (λ o. and_then o (λ d. Some (out f t (Asked h d.0), d.1))) (text_back 1024 d rest r.1 stops)
  what_back (Said j d) r =
      let number = codes " " ++ decimal j in
      ap (says_then f) (append_assoc (decimal t) (number ++ bytes_text d) rest ∙ ap (λ l. decimal t ++ l) (append_assoc number (bytes_text d) rest))
      ∙ ap (λ o. and_then o (λ t. and_then (number_after (codes " ") 4294967295 t.1) (λ j. and_then (bytes_then 1024 j.1) (λ d. Some (out f t.0 (Said j.0 d.0), d.1))))) (site_back [] t (number ++ (bytes_text d ++ rest)) small refl)
      ∙ ap (λ o. and_then o (λ j. and_then (bytes_then 1024 j.1) (λ d. Some (out f t (Said j.0 d.0), d.1)))) (number_back (codes " ") 4294967295 j (bytes_text d ++ rest) (omega (arith, r.0)) (omega (arith, r.0)) refl)
      ∙ ap (λ o. and_then o (λ d. Some (out f t (Said j d.0), d.1))) (text_back 1024 d rest r.1 stops)
  what_back (Opened h) r =
      ap (opens_then f) (append_assoc (decimal t) (bytes_text h) rest)
      ∙ ap (λ o. and_then o (λ t. and_then (bytes_then 255 t.1) (λ h. Some (out f t.0 (Opened h.0), h.1)))) (site_back [] t (bytes_text h ++ rest) small refl)
      ∙ ap (λ o. and_then o (λ h. Some (out f t (Opened h.0), h.1))) (text_back 255 h rest r stops)
  what_back (Let c d) r =
      let number = codes " " ++ decimal c in
      ap (lets_then f) (append_assoc (decimal t) (number ++ bytes_text d) rest ∙ ap (λ l. decimal t ++ l) (append_assoc number (bytes_text d) rest))
      ∙ ap (λ o. and_then o (λ t. and_then (number_after (codes " ") 65535 t.1) (λ c. and_then (bytes_then 4096 c.1) (λ d. Some (out f t.0 (Let c.0 d.0), d.1))))) (site_back [] t (number ++ (bytes_text d ++ rest)) small refl)
      ∙ ap (λ o. and_then o (λ c. and_then (bytes_then 4096 c.1) (λ d. Some (out f t (Let c.0 d.0), d.1)))) (number_back (codes " ") 65535 c (bytes_text d ++ rest) (omega (arith, r.0)) (omega (arith, r.0)) refl)
      ∙ ap (λ o. and_then o (λ d. Some (out f t (Let c d.0), d.1))) (text_back 4096 d rest r.1 stops)

what-starts : (t : ℕ) (w : What) (rest : List ℕ) → prefix_len is_digit (what_text t w ++ rest) ≡ 0
what-starts t (Asked h d) rest = refl
what-starts t (Said j d) rest = refl
what-starts t (Opened h) rest = refl
what-starts t (Let c d) rest = refl

out_back : (o : Out) (rest : List ℕ) → OutIn o → prefix_len is_hex rest ≡ 0 → up_to_one (out_text o ++ rest) ≡ Some (o ∷ [], rest)
out_back o rest r stops =
    let w = what_text o.to o.what in
    ap (λ s. and_then (out_then s) (λ o. Some (o.0 ∷ [], o.1))) (append_assoc (decimal o.from) w rest)
    ∙ ap (λ q. and_then (and_then q (λ f. what_then f.0 f.1)) (λ o. Some (o.0 ∷ [], o.1))) (site_back [] o.from (w ++ rest) r.0 (what-starts o.to o.what rest))
    ∙ ap (λ q. and_then q (λ o. Some (o.0 ∷ [], o.1))) (what_back o.from o.to r.1 rest stops o.what r.2)

outs_back : (os : List Out) (rest : List ℕ) → AllByRecursion OutIn os → length os ≤ 2 → outs_then (outs_text os ++ (10 ∷ rest)) ≡ Some (os, 10 ∷ rest)
outs_back [] rest r few = refl
outs_back (o ∷ []) rest r few =
    ap (λ t. outs_then (t ++ (10 ∷ rest))) (append-nil (out_text o))
    ∙ ap (λ q. and_then q (λ a. and_then (up_to_one a.1) (λ b. Some (a.0 ++ b.0, b.1)))) (out_back o (10 ∷ rest) r.0 refl)
outs_back (o ∷ (p ∷ [])) rest r few =
    ap (λ t. outs_then ((out_text o ++ t) ++ (10 ∷ rest))) (append-nil (out_text p))
    ∙ ap outs_then (append_assoc (out_text o) (out_text p) (10 ∷ rest))
    ∙ ap (λ q. and_then q (λ a. and_then (up_to_one a.1) (λ b. Some (a.0 ++ b.0, b.1)))) (out_back o (out_text p ++ (10 ∷ rest)) r.0 refl)
    ∙ ap (λ q. and_then q (λ b. Some ((o ∷ []) ++ b.0, b.1))) (out_back p (10 ∷ rest) r.1.0 refl)
outs_back (o ∷ (p ∷ (q ∷ os))) rest r few = absurd (omega arith)

event-starts : (e : Event) (rest : List ℕ) → prefix_len is_digit (event_text e ++ rest) ≡ 0
event-starts (Opening t h) rest = refl
event-starts (TurnOf i) rest = refl

site-starts : (s : Option ℕ) (rest : List ℕ) → prefix_len is_hex (site_text s ++ rest) ≡ 0
site-starts None rest = refl
site-starts (Some t) rest = refl

outs_start : (os : List Out) (rest : List ℕ) → prefix_len is_digit (outs_text os ++ (10 ∷ rest)) ≡ 0
outs_start [] rest = refl
outs_start (o ∷ os) rest = refl

flat : (a b c d e g rest : List ℕ) → (a ++ (b ++ (c ++ (d ++ (e ++ g))))) ++ rest ≡ a ++ (b ++ (c ++ (d ++ (e ++ (g ++ rest)))))
flat a b c d e g rest = simp append_assoc

abbrev made : Event → Option ℕ → ℕ → List Out → List ℕ → Option (Entry × List ℕ)
made e w f o rest = Some (record { event = e; site = w; fault = f; outs = o }, rest)

entry_back : (e : Entry) (rest : List ℕ) → InRange e → entry_then (event_text e.event ++ (site_text e.site ++ ((codes " " ++ decimal e.fault) ++ (outs_text e.outs ++ (10 ∷ rest))))) ≡ Some (e, rest)
entry_back e rest r =
    let S = site_text e.site in
    let F = codes " " ++ decimal e.fault in
    let end = outs_text e.outs ++ (10 ∷ rest) in
    ap (λ o. and_then o (λ x. and_then (window_then x.1) (λ w. and_then (number_after (codes " ") 255 w.1) (λ f. and_then (outs_then f.1) (λ o. and_then (after (codes "\n") o.1) (made x.0 w.0 f.0 o.0))))))
    (event_back e.event (S ++ (F ++ end)) r.event (site-starts e.site (F ++ end)))
    ∙ ap (λ o. and_then o (λ w. and_then (number_after (codes " ") 255 w.1) (λ f. and_then (outs_then f.1) (λ o. and_then (after (codes "\n") o.1) (made e.event w.0 f.0 o.0)))))
    (window_back e.site (F ++ end) r.site refl)
    ∙ ap (λ o. and_then o (λ f. and_then (outs_then f.1) (λ o. and_then (after (codes "\n") o.1) (made e.event e.site f.0 o.0))))
    (number_back (codes " ") 255 e.fault end (omega (arith, r.fault)) (omega (arith, r.fault)) (outs_start e.outs rest))
    ∙ ap (λ o. and_then o (λ o. and_then (after (codes "\n") o.1) (made e.event e.site e.fault o.0)))
    (outs_back e.outs rest r.outs r.few)

abbrev line : ℕ → Entry → List ℕ → Option ((ℕ × Entry) × List ℕ)
line n e rest = Some ((n, e), rest)

pub line_back : (n : ℕ) (e : Entry) (rest : List ℕ) → n < 2 ^ 64 → InRange e → read_line (line_text n e ++ rest) ≡ Some ((n, e), rest)
line_back n e rest f r =
    let E = event_text e.event in
    let end = site_text e.site ++ ((codes " " ++ decimal e.fault) ++ (outs_text e.outs ++ (10 ∷ rest))) in
    ap read_line (flat (decimal n) E (site_text e.site) (codes " " ++ decimal e.fault) (outs_text e.outs) (codes "\n") rest)
    ∙ ap (λ o. and_then o (λ x. and_then (entry_then x.1) (λ y. line x.0 y.0 y.1))) (number_back [] 18446744073709551615 n (E ++ end) (omega arith) f (event-starts e.event end))
    ∙ ap (λ o. and_then o (λ y. line n y.0 y.1)) (entry_back e rest r)
