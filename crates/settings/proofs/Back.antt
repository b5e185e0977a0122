-- What is written of settings is read back. Assumes nothing.
use Rattle.std.proofs.Common.{◌≡◌, ℕ, suc, ◌+◌, ◌<◌, ◌≤◌, Bool, true, false, cond, not, eqb, ltb, leb, List, [], ◌∷◌, ◌++◌, map, length, get_or, Some, None, codes, decimal, Option, sym, refl, ap, ◌∙◌, ⊎_elim, append_assoc, append-nil, arith, length-append}
use Rattle.std.specs.List.{prefix_len}
use Rattle.std.proofs.lemmas.List.{map-append, take_all}
use Rattle.std.proofs.lemmas.Bool.{cond-true, cond-false, cond_both, cases_Bool, cases_eq, and_from, and_parts, eqb-true, ne_eqb, le-leb, lt-ltb, le-ltb, both_ways, not_from_false, or_left}
use Rattle.std.proofs.lemmas.Fmt.{decimal_digit, decimal_nonempty, first_decimal}
use Rattle.octets.specs.declared.Class.TheVariants.{Digit, Line, Name, Visible}
use Rattle.octets.specs.Classes.{is_digit, has}
use Rattle.octets.specs.Fronts.{and_then, after, front}
use Rattle.octets.proofs.Fronts.{all_append, all-front, front-append, past-append}
use Rattle.octets.proofs.Numbers.{number_digits, number-decimal}
use Rattle.addresses.specs.Written.{port_text, site_text}
use Rattle.addresses.proofs.Back.{host_names, address_back}
use Rattle.settings.specs.declared.lines.TurnLine.{TurnLine}
use Rattle.settings.specs.declared.lines.TurnLine.TheVariants.{Window, Rounds}
use Rattle.words.specs.Numerals.{unpadded}
use Rattle.settings.specs.Lines.{lines, count, address_in, site_from, open_from, head_line, rounds_from, turn_from, turn_line}
use Rattle.settings.specs.Settings.{Config, Good, Bad, place, named, added, few, turn_then, turns_from, with_turns, head_then, lines_from, no_settings, read_settings}
use Rattle.settings.specs.Written.{site_line, open_text, open_line, turn_text, lines_of, ended, settings_text, SettingsReadBack}
use Rattle.settings.proofs.Places.{nth-within}
use Rattle.settings.proofs.Cuts.{lines-append}
use Rattle.settings.proofs.Fine.{All, SiteOk, OpenOk, TurnOk, Apart, Fine, fine_lines}

-- no byte is a newline
abbrev Plain : List ℕ → Type 0
Plain l = prefix_len (has Line) l ≡ length l

plain_of : (c : ℕ → Bool) → c 10 ≡ false → (s : List ℕ) → prefix_len c s ≡ length s → Plain s
plain_of c off s e =
    let f : front c s ≡ s = take_all (prefix_len c s) s (omega arith) in
    (λ i. prefix_len (has Line) (sym f i))
    ∙ all-front c (has Line) (λ b y. ⊎_elim (λ q. absurd (both_ways (c b) (ap c (eqb-true b 10 q) ∙ off) y)) (λ n. not_from_false (eqb b 10) n) (cases_Bool (eqb b 10))) s
    ∙ (λ i. length (f i))

-- the digits of a number
module _ (n : ℕ) (small : n ≤ 999999999) where
  digits : prefix_len is_digit (decimal n) ≡ length (decimal n)
  digits = number_digits 999999999 0 n (decimal n) (number-decimal 999999999 n small (omega arith))

  plain_digits : Plain (decimal n)
  plain_digits = plain_of is_digit refl (decimal n) digits

  unpadded_digits : unpadded (decimal n) ≡ true
  unpadded_digits =
      ⊎_elim
      (λ z. (λ i. unpadded (decimal (z i))) ∙ ap unpadded (decimal_digit 0 (omega arith)))
      (λ z. starts (decimal n) (first_decimal n (omega arith) (omega arith)))
      (cases_eq n 0)
    where
      starts : (ds : List ℕ) → 48 < get_or ds 0 0 → unpadded ds ≡ true
      starts [] f = absurd (omega arith)
      starts (d ∷ ds) f = or_left (not (eqb d 48)) (eqb (length ds) 0) (not_from_false (eqb d 48) (ne_eqb d 48 (λ q. omega arith)))

  count_back : count (decimal n) ≡ Some n
  count_back = cond-true _ _ _ unpadded_digits ∙ number-decimal 999999999 n small (omega arith)

-- no line that begins with a letter begins with a digit
not_digit : (p : ℕ) (ps s t : List ℕ) → is_digit p ≡ false → 0 < length s → prefix_len is_digit s ≡ length s → after (p ∷ ps) (s ++ t) ≡ None
not_digit p ps [] t off h e = absurd (omega arith)
not_digit p ps (d ∷ s) t off h e =
    ⊎_elim
    (λ y. cond-false (eqb p d) (after ps (s ++ t)) None (ne_eqb p d (λ q. both_ways (is_digit p) off (ap is_digit q ∙ y))))
    (λ n. let z : 0 ≡ suc (length s) = sym (cond-false (is_digit d) (1 + prefix_len is_digit s) 0 n) ∙ e in absurd (omega arith))
    (cases_Bool (is_digit d))

-- lines of turns
turn_back : (t : TurnLine) → TurnOk t → turn_line (turn_text t) ≡ Some t
turn_back (Window n) ok = ap (λ o. and_then o (λ m. Some (Window m))) (count_back n ok)
turn_back (Rounds n) ok =
    let end = codes " times all" in
    ap (λ o. turn_from o (decimal n ++ end)) (not_digit 116 (codes "urn ") (decimal n) end refl (decimal_nonempty n (omega arith)) (digits n ok))
    ∙ (λ i. rounds_from (front-append (has Digit) (decimal n) end (digits n ok) refl i) (after end (past-append (has Digit) (decimal n) end (digits n ok) refl i)))
    ∙ ap (λ o. and_then o (λ m. Some (Rounds m))) (count_back n ok)

no_head : (t : TurnLine) → TurnOk t → head_line (turn_text t) ≡ None
no_head (Window n) ok = refl
no_head (Rounds n) ok =
    let end = codes " times all" in
    ap (λ o. open_from o (decimal n ++ end)) (not_digit 111 (codes "pen ") (decimal n) end refl (decimal_nonempty n (omega arith)) (digits n ok))
    ∙ ap site_from (not_digit 115 (codes "ite ") (decimal n) end refl (decimal_nonempty n (omega arith)) (digits n ok))

plain_turn : (t : TurnLine) → TurnOk t → Plain (turn_text t)
plain_turn (Window n) ok = all_append (has Line) (codes "turn ") (decimal n) refl (plain_digits n ok)
plain_turn (Rounds n) ok = all_append (has Line) (decimal n) (codes " times all") (plain_digits n ok) refl

turns_back : (ts : List TurnLine) (k : ℕ) → All TurnOk ts → turns_from k (map Some (map turn_text ts)) ≡ Good ts
turns_back [] k h = refl
turns_back (t ∷ ts) k h = ap (λ o. turn_then o k (turns_from (k + 1) (map Some (map turn_text ts)))) (turn_back t h.0) ∙ ap (turn_then (Some t) k) (turns_back ts (k + 1) h.1)

abbrev of : List (List ℕ × ℕ) → List (ℕ × List ℕ) → Config
of xs os = record { sites = xs; opens = os; turns = [] }

read_turns : (ts : List TurnLine) (k : ℕ) (xs : List (List ℕ × ℕ)) (os : List (ℕ × List ℕ)) → All TurnOk ts → lines_from (of xs os) k (map Some (map turn_text ts)) ≡ Good (record { sites = xs; opens = os; turns = ts })
read_turns [] k xs os h = refl
read_turns (t ∷ ts) k xs os h =
    let rest = map Some (map turn_text ts) in
    ap (λ o. head_then (of xs os) o k (λ d. lines_from d (k + 1) rest) (with_turns (of xs os) (turns_from k (Some (turn_text t) ∷ rest)))) (no_head t h.0)
    ∙ ap (with_turns (of xs os)) (turns_back (t ∷ ts) k h)

-- lines of sites
plain_site : (s : List ℕ × ℕ) → SiteOk s → Plain (site_text s.0 s.1)
plain_site s ok =
    all_append (has Line) (codes "https://") (s.0 ++ port_text s.1) refl
    (all_append (has Line) s.0 (port_text s.1) (plain_of (has Name) refl s.0 (host_names 8 s.0 ok.0))
    (cond_both (eqb s.1 443) [] (codes ":" ++ decimal s.1) Plain (λ _. refl) (λ _. all_append (has Line) (codes ":") (decimal s.1) refl (plain_digits s.1 (omega (arith, ok.1.1))))))

site_line_lem : (s : List ℕ × ℕ) → SiteOk s → head_line (site_line s) ≡ Some (false, (s.0, s.1, codes "/"))
site_line_lem s ok = ap (λ r. and_then (address_in r) (λ a. Some (false, a))) (address_back s.0 (codes "/") s.1 ok.0 ok.1.0 ok.1.1 refl)

read_sites : (xs pre : List (List ℕ × ℕ)) (k : ℕ) (rest : List (Option (List ℕ))) → All SiteOk xs → Apart pre xs → length pre + length xs ≤ 16 →
    (m : ℕ) × (lines_from (of pre []) k (map Some (map site_line xs) ++ rest) ≡ lines_from (of (pre ++ xs) []) m rest)
read_sites [] pre k rest h a w = (k, ap (λ l. lines_from (of l []) k rest) (sym (append-nil pre)))
read_sites (x ∷ xs) pre k rest h a w =
    let more = map Some (map site_line xs) ++ rest in
    let new : named x pre ≡ pre ++ (x ∷ []) = cond-false _ _ _ (le-ltb (place x pre) (length pre) (omega (arith, a.0))) in
    let long = length-append pre (x ∷ []) in
    let enough : few (of (pre ++ (x ∷ [])) []) ≡ true = and_from _ _ (le-leb (length (pre ++ (x ∷ []))) 16 (omega arith)) refl in
    let next = read_sites xs (pre ++ (x ∷ [])) (k + 1) rest h.1 a.1 (omega arith) in (
      next.0,
      ap (λ o. head_then (of pre []) o k (λ d. lines_from d (k + 1) more) (with_turns (of pre []) (turns_from k (Some (site_line x) ∷ more)))) (site_line_lem x h.0)
          ∙ ap (λ ys. cond (few (of ys [])) (lines_from (of ys []) (k + 1) more) (Bad 2 k)) new
          ∙ cond-true _ _ _ enough
          ∙ next.1
          ∙ ap (λ l. lines_from (of l []) next.0 rest) (append_assoc pre (x ∷ []) xs),
    )

-- lines of windows
module _ (ys : List (List ℕ × ℕ)) where
  plain_open : (o : ℕ × List ℕ) → OpenOk ys o → Plain (open_line ys o)
  plain_open o h =
      let s = h.site in
      let visible = eqb-true (prefix_len (has Visible) o.1) (length o.1) (and_parts (eqb (get_or o.1 0 0) 47) _ (and_parts (leb (length o.1) 255) _ (and_parts (ltb 0 (length o.1)) _ h.path).1).1).1 in
      (λ i. prefix_len (has Line) (open_text (h.there i) o.1))
      ∙ all_append (has Line) (codes "open ") (site_text s.0 s.1 ++ o.1) refl (all_append (has Line) (site_text s.0 s.1) o.1 (plain_site s h.ok) (plain_of (has Visible) refl o.1 visible))
      ∙ sym (λ i. length (open_text (h.there i) o.1))

  open_line_lem : (o : ℕ × List ℕ) (h : OpenOk ys o) → head_line (open_line ys o) ≡ Some (true, (h.site.0, h.site.1, o.1))
  open_line_lem o h =
      let s = h.site in
      ap (λ x. head_line (open_text x o.1)) h.there
      ∙ ap (λ r. and_then (address_in r) (λ a. Some (true, a))) (address_back s.0 o.1 s.1 h.ok.0 h.ok.1.0 h.ok.1.1 h.path)

  read_opens : (os pre : List (ℕ × List ℕ)) (k : ℕ) (rest : List (Option (List ℕ))) → All (OpenOk ys) os → length ys ≤ 16 → length pre + length os ≤ 16 →
      (m : ℕ) × (lines_from (of ys pre) k (map Some (map (open_line ys) os) ++ rest) ≡ lines_from (of ys (pre ++ os)) m rest)
  read_opens [] pre k rest h most w = (k, ap (λ l. lines_from (of ys l) k rest) (sym (append-nil pre)))
  read_opens (o ∷ os) pre k rest h most w =
      let f = h.0 in
      let more = map Some (map (open_line ys) os) ++ rest in
      let in_table = nth-within ys o.0 f.site f.there in
      let is = f.first in
      let old : named f.site ys ≡ ys = cond-true _ _ _ (lt-ltb (place f.site ys) (length ys) (omega arith)) in
      let now : added (of ys pre) (true, (f.site.0, f.site.1, o.1)) ≡ of ys (pre ++ (o ∷ [])) = (λ i. record { sites = old i; opens = pre ++ ((f.first i, o.1) ∷ []); turns = [] }) in
      let long = length-append pre (o ∷ []) in
      let enough : few (of ys (pre ++ (o ∷ []))) ≡ true = and_from _ _ (le-leb (length ys) 16 most) (le-leb (length (pre ++ (o ∷ []))) 16 (omega arith)) in
      let next = read_opens os (pre ++ (o ∷ [])) (k + 1) rest h.1 most (omega arith) in (
        next.0,
        ap (λ x. head_then (of ys pre) x k (λ d. lines_from d (k + 1) more) (with_turns (of ys pre) (turns_from k (Some (open_line ys o) ∷ more)))) (open_line_lem o f)
            ∙ ap (λ d. cond (few d) (lines_from d (k + 1) more) (Bad 2 k)) now
            ∙ cond-true _ _ _ enough
            ∙ next.1
            ∙ ap (λ l. lines_from (of ys l) next.0 rest) (append_assoc pre (o ∷ []) os),
      )

-- all lines together
all_map : {X Y : Type 0} (P : X → Type 0) (Q : Y → Type 0) (f : X → Y) → ((x : X) → P x → Q (f x)) → (xs : List X) → All P xs → All Q (map f xs)
all_map P Q f w [] h = tt
all_map P Q f w (x ∷ xs) h = (w x h.0, all_map P Q f w xs h.1)

all_both : {X : Type 0} (P : X → Type 0) (xs ys : List X) → All P xs → All P ys → All P (xs ++ ys)
all_both P [] ys h k = k
all_both P (x ∷ xs) ys h k = (h.0, all_both P xs ys h.1 k)

lines-ended : (ls : List (List ℕ)) → All Plain ls → lines (ended ls) ≡ map Some ls
lines-ended [] h = refl
lines-ended (l ∷ ls) h = lines-append l (ended ls) h.0 ∙ ap (λ r. Some l ∷ r) (lines-ended ls h.1)

back : (c : Config) → Fine c → read_settings (settings_text c) ≡ Good c
back c f =
    let sites = map site_line c.sites in
    let opens = map (open_line c.sites) c.opens in
    let turns = map turn_text c.turns in
    let plain = all_both Plain sites (opens ++ turns) (all_map SiteOk Plain site_line (λ s ok. all_append (has Line) (codes "site ") (site_text s.0 s.1 ++ codes "/") refl (all_append (has Line) (site_text s.0 s.1) (codes "/") (plain_site s ok) refl)) c.sites f.sites)
    (all_both Plain opens turns (all_map (OpenOk c.sites) Plain (open_line c.sites) (plain_open c.sites) c.opens f.opens) (all_map TurnOk Plain turn_text plain_turn c.turns f.turns)) in
    let one = read_sites c.sites [] 1 (map Some opens ++ map Some turns) f.sites f.apart (omega (arith, f.few-sites)) in
    let two = read_opens c.sites c.opens [] one.0 (map Some turns) f.opens f.few-sites (omega (arith, f.few-opens)) in
    ap (lines_from no_settings 1) (lines-ended (lines_of c) plain ∙ map-append Some sites (opens ++ turns) ∙ ap (λ l. map Some sites ++ l) (map-append Some opens turns))
    ∙ one.1
    ∙ two.1
    ∙ read_turns c.turns two.0 c.sites c.opens f.turns

pub settings_read_back : SettingsReadBack
settings_read_back s c e = back c (fine_lines (lines s) no_settings c 1 (record { sites = tt; apart = tt; opens = tt; turns = tt; few-sites = omega arith; few-opens = omega arith }) e)
