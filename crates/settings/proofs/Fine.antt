-- What holds of settings that were read. Assumes nothing.
use Rattle.std.proofs.Common.{◌≡◌, ℕ, zero, suc, ◌+◌, ◌<◌, ◌≤◌, Bool, true, false, eqb, ltb, leb, List, [], ◌∷◌, ◌++◌, length, Some, None, codes, Option, sym, refl, ap, ◌∙◌, subst, ⊎_elim, append_assoc, append-nil, one-add, arith}
use Rattle.std.specs.List.{slice_get}
use Rattle.std.proofs.lemmas.Bool.{cond-true, cond-false, cases_Bool, and_parts, ltb-true, ltb-false, leb-true}
use Rattle.octets.specs.declared.Class.TheVariants.{Digit}
use Rattle.octets.specs.Answers.{Answer, Read, Fault}
use Rattle.octets.specs.Classes.{has}
use Rattle.octets.specs.Fronts.{and_then, after, front, past}
use Rattle.octets.specs.Numbers.{number}
use Rattle.octets.proofs.Numbers.{number_range}
use Rattle.octets.proofs.Options.{none-some, some_same, cond-some, then_some}
use Rattle.addresses.specs.Address.{labels, path_ok, read_address}
use Rattle.addresses.proofs.Back.{address_known}
use Rattle.settings.specs.declared.lines.TurnLine.{TurnLine}
use Rattle.settings.specs.declared.lines.TurnLine.TheVariants.{Window, Rounds}
use Rattle.words.specs.Numerals.{unpadded}
use Rattle.settings.specs.Lines.{count, address_in, site_from, open_from, head_line, rounds_from, turn_from, turn_line}
use Rattle.settings.specs.Settings.{Config, Outcome, Good, Bad, same_site, place, named, opened, added, few, turn_then, turns_from, with_turns, head_then, lines_from}
use Rattle.settings.proofs.Places.{same_decides, nth-within, place-within}

abbrev pub All : {X : Type 0} → (X → Type 0) → List X → Type 0
All P [] = Unit {0}
All P (x ∷ xs) = P x × All P xs

pub all_push : {X : Type 0} (P : X → Type 0) (xs : List X) (x : X) → All P xs → P x → All P (xs ++ (x ∷ []))
all_push P [] x h p = (p, tt)
all_push P (y ∷ xs) x h p = (h.0, all_push P xs x h.1 p)

-- a host and a port within their rules
abbrev pub SiteOk : List ℕ × ℕ → Type 0
SiteOk s = (labels 8 s.0 ≡ true) × ((0 < s.1) × (s.1 ≤ 65535))

-- a window of a site that has that number
pub record OpenOk (ys : List (List ℕ × ℕ)) (o : ℕ × List ℕ) : Type 0 where
  pub site : List ℕ × ℕ
  pub there : slice_get ys o.0 ≡ Some site
  pub first : place site ys ≡ o.0
  pub ok : SiteOk site
  pub path : path_ok o.1 ≡ true

abbrev pub TurnOk : TurnLine → Type 0
TurnOk (Window n) = n ≤ 999999999
TurnOk (Rounds n) = n ≤ 999999999

-- none of xs is among pre or those before it
abbrev pub Apart : List (List ℕ × ℕ) → List (List ℕ × ℕ) → Type 0
Apart pre [] = Unit {0}
Apart pre (x ∷ xs) = (place x pre ≡ length pre) × Apart (pre ++ (x ∷ [])) xs

apart_push : (pre xs : List (List ℕ × ℕ)) (s : List ℕ × ℕ) → Apart pre xs → place s (pre ++ xs) ≡ length (pre ++ xs) → Apart pre (xs ++ (s ∷ []))
apart_push pre [] s h q = let e = append-nil pre in (sym (ap (place s) e) ∙ q ∙ ap length e, tt)
apart_push pre (x ∷ xs) s h q = let e = append_assoc pre (x ∷ []) xs in (h.0, apart_push (pre ++ (x ∷ [])) xs s h.1 (ap (place s) e ∙ q ∙ sym (ap length e)))

-- one more site at the end changes no number
place_old : (s : List ℕ × ℕ) (xs zs : List (List ℕ × ℕ)) → place s xs < length xs → place s (xs ++ zs) ≡ place s xs
place_old s [] zs h = absurd (omega arith)
place_old s (x ∷ xs) zs h =
    ⊎_elim
    (λ y. cond-true (same_site s x) 0 (1 + place s (xs ++ zs)) y ∙ sym (cond-true (same_site s x) 0 (1 + place s xs) y))
    (λ n. let e : place s (x ∷ xs) ≡ 1 + place s xs = cond-false (same_site s x) 0 (1 + place s xs) n in
    cond-false (same_site s x) 0 (1 + place s (xs ++ zs)) n ∙ ap (λ k. 1 + k) (place_old s xs zs (omega arith)) ∙ sym e)
    (cases_Bool (same_site s x))

place_new : (s : List ℕ × ℕ) (xs : List (List ℕ × ℕ)) → place s xs ≡ length xs → place s (xs ++ (s ∷ [])) ≡ length xs
place_new s [] h = cond-true (same_site s s) 0 (1 + 0) ((same_decides s s).1 refl)
place_new s (x ∷ xs) h =
    ⊎_elim
    (λ y. let z : 0 ≡ suc (length xs) = sym (cond-true (same_site s x) 0 (1 + place s xs) y) ∙ h in absurd (omega arith))
    (λ n. let e : 1 + place s xs ≡ suc (length xs) = sym (cond-false (same_site s x) 0 (1 + place s xs) n) ∙ h in
    let g : place s xs ≡ length xs = omega arith in
    cond-false (same_site s x) 0 (1 + place s (xs ++ (s ∷ []))) n ∙ ap (λ k. 1 + k) (place_new s xs g) ∙ one-add (length xs))
    (cases_Bool (same_site s x))

-- what stands at the number of a site is the site
nth-place : (s : List ℕ × ℕ) (xs : List (List ℕ × ℕ)) → place s xs < length xs → slice_get xs (place s xs) ≡ Some s
nth-place s [] h = absurd (omega arith)
nth-place s (x ∷ xs) h =
    ⊎_elim
    (λ y. (λ i. slice_get (x ∷ xs) (cond-true (same_site s x) 0 (1 + place s xs) y i)) ∙ ap Some (sym ((same_decides s x).0 y)))
    (λ n. let e : place s (x ∷ xs) ≡ suc (place s xs) = cond-false (same_site s x) 0 (1 + place s xs) n ∙ one-add (place s xs) in
    (λ i. slice_get (x ∷ xs) (e i)) ∙ nth-place s xs (omega arith))
    (cases_Bool (same_site s x))

nth_last : (s : List ℕ × ℕ) (xs : List (List ℕ × ℕ)) → slice_get (xs ++ (s ∷ [])) (length xs) ≡ Some s
nth_last s [] = refl
nth_last s (x ∷ xs) = nth_last s xs

nth-append : {X : Type 0} (xs zs : List X) (n : ℕ) (y : X) → slice_get xs n ≡ Some y → slice_get (xs ++ zs) n ≡ Some y
nth-append [] zs n y e = absurd (none-some y e)
nth-append (x ∷ xs) zs zero y e = e
nth-append (x ∷ xs) zs (suc n) y e = nth-append xs zs n y e

open_more : (ys : List (List ℕ × ℕ)) (s : List ℕ × ℕ) (o : ℕ × List ℕ) → OpenOk ys o → OpenOk (ys ++ (s ∷ [])) o
open_more ys s o h =
    let w = nth-within ys o.0 h.site h.there in
    let f = h.first in
    record {
      site = h.site;
      there = nth-append ys (s ∷ []) o.0 h.site h.there;
      first = place_old h.site ys (s ∷ []) (omega arith) ∙ h.first;
      ok = h.ok;
      path = h.path;
    }

opens-more : (ys : List (List ℕ × ℕ)) (s : List ℕ × ℕ) (os : List (ℕ × List ℕ)) → All (OpenOk ys) os → All (OpenOk (ys ++ (s ∷ []))) os
opens-more ys s [] h = tt
opens-more ys s (o ∷ os) h = (open_more ys s o h.0, opens-more ys s os h.1)

-- what holds of the sites and windows once s is named
pub record Named (s : List ℕ × ℕ) (os : List (ℕ × List ℕ)) (n : ℕ) (ys : List (List ℕ × ℕ)) : Type 0 where
  pub sites : All SiteOk ys
  pub apart : Apart [] ys
  pub opens : All (OpenOk ys) os
  pub there : slice_get ys n ≡ Some s
  pub first : place s ys ≡ n

pub names : (s : List ℕ × ℕ) (xs : List (List ℕ × ℕ)) (os : List (ℕ × List ℕ)) → SiteOk s → All SiteOk xs → Apart [] xs → All (OpenOk xs) os → Named s os (place s xs) (named s xs)
names s xs os ok sites apart opens =
    ⊎_elim
    (λ y. subst (λ (ys : List (List ℕ × ℕ)). Named s os (place s xs) ys) (sym (cond-true (ltb (place s xs) (length xs)) xs (xs ++ (s ∷ [])) y))
    (record { sites = sites; apart = apart; opens = opens; there = nth-place s xs (ltb-true (place s xs) (length xs) y); first = refl }))
    (λ n. let e : place s xs ≡ length xs = omega (arith, ltb-false (place s xs) (length xs) n, place-within s xs) in
    subst (λ (ys : List (List ℕ × ℕ)). Named s os (place s xs) ys) (sym (cond-false (ltb (place s xs) (length xs)) xs (xs ++ (s ∷ [])) n))
    (record {
      sites = all_push SiteOk xs s sites ok;
      apart = apart_push [] xs s apart e;
      opens = opens-more xs s os opens;
      there = ap (slice_get (xs ++ (s ∷ []))) e ∙ nth_last s xs;
      first = place_new s xs e ∙ sym e;
    }))
    (cases_Bool (ltb (place s xs) (length xs)))

pub record Fine (c : Config) : Type 0 where
  pub sites : All SiteOk c.sites
  pub apart : Apart [] c.sites
  pub opens : All (OpenOk c.sites) c.opens
  pub turns : All TurnOk c.turns
  pub few-sites : length c.sites ≤ 16
  pub few-opens : length c.opens ≤ 16

opened-all : (P : ℕ × List ℕ → Type 0) (b : Bool) (o : ℕ × List ℕ) (os : List (ℕ × List ℕ)) → All P os → P o → All P (opened b o os)
opened-all P false o os h p = h
opened-all P true o os h p = all_push P os o h p

fine_added : (c : Config) (h : Bool × (List ℕ × ℕ × List ℕ)) → Fine c → SiteOk (h.1.0, h.1.1) → path_ok h.1.2 ≡ true → few (added c h) ≡ true → Fine (added c h)
fine_added c h f ok path enough =
    let n = names (h.1.0, h.1.1) c.sites c.opens ok f.sites f.apart f.opens in
    let m = and_parts (leb (length (added c h).sites) 16) (leb (length (added c h).opens) 16) enough in
    record {
      sites = n.sites;
      apart = n.apart;
      opens = opened-all (OpenOk (added c h).sites) h.0 (place (h.1.0, h.1.1) c.sites, h.1.2) c.opens n.opens
          (record { site = (h.1.0, h.1.1); there = n.there; first = n.first; ok = ok; path = path });
      turns = f.turns;
      few-sites = leb-true (length (added c h).sites) 16 m.0;
      few-opens = leb-true (length (added c h).opens) 16 m.1;
    }

-- the address of a line that names a site
abbrev HeadOk : Bool × (List ℕ × ℕ × List ℕ) → Type 0
HeadOk h = SiteOk (h.1.0, h.1.1) × (path_ok h.1.2 ≡ true)

address_ok : (t : List ℕ) (b : Bool) (h : Bool × (List ℕ × ℕ × List ℕ)) (r : Answer (List ℕ × ℕ × List ℕ)) → read_address t ≡ r → and_then (address_in r) (λ a. Some (b, a)) ≡ Some h → HeadOk h
address_ok t b h (Read a) q e =
    let k = address_known t a.0 a.2 a.1 q in
    subst HeadOk (some_same (b, a) h e) ((k.0, k.1), k.2)
address_ok t b h (Fault n) q e = absurd (none-some h e)

site_ok_lem : (o : Option (List ℕ)) (h : Bool × (List ℕ × ℕ × List ℕ)) → site_from o ≡ Some h → HeadOk h
site_ok_lem None h e = absurd (none-some h e)
site_ok_lem (Some t) h e = address_ok t false h (read_address t) refl e

open_ok : (o : Option (List ℕ)) (l : List ℕ) (h : Bool × (List ℕ × ℕ × List ℕ)) → open_from o l ≡ Some h → HeadOk h
open_ok None l h e = site_ok_lem (after (codes "site ") l) h e
open_ok (Some t) l h e = address_ok t true h (read_address t) refl e

-- the number of a line of turns
count_ok : (ds : List ℕ) (n : ℕ) → count ds ≡ Some n → n ≤ 999999999
count_ok ds n e = (number_range 999999999 0 n ds (omega arith) (cond-some (unpadded ds) (number 999999999 0 ds) n e).1).1

rounds_ok : (ds : List ℕ) (o : Option (List ℕ)) (t : TurnLine) → rounds_from ds o ≡ Some t → TurnOk t
rounds_ok ds None t e = absurd (none-some t e)
rounds_ok ds (Some r) t e =
    let h = cond-some (eqb (length r) 0) (and_then (count ds) (λ n. Some (Rounds n))) t e in
    let k = then_some (count ds) (λ n. Some (Rounds n)) t h.1 in
    subst TurnOk (some_same (Rounds k.0) t k.2) (count_ok ds k.0 k.1)

turn_ok : (o : Option (List ℕ)) (l : List ℕ) (t : TurnLine) → turn_from o l ≡ Some t → TurnOk t
turn_ok None l t e = rounds_ok (front (has Digit) l) (after (codes " times all") (past (has Digit) l)) t e
turn_ok (Some ds) l t e =
    let k = then_some (count ds) (λ n. Some (Window n)) t e in
    subst TurnOk (some_same (Window k.0) t k.2) (count_ok ds k.0 k.1)

good_same : {A : Type 0} (x y : A) → Good x ≡ Good y → x ≡ y
good_same x y e = cc

bad_good : {A : Type 0} (n l : ℕ) (x : A) → Bad n l ≡ Good x → ⊥
bad_good n l x e = let z : ◌≡◌ {A = ℕ} 0 1 = cc in omega arith

turns_ok : (k : ℕ) (ls : List (Option (List ℕ))) (ts : List TurnLine) → turns_from k ls ≡ Good ts → All TurnOk ts
turns_ok k [] ts e = subst (All TurnOk) (good_same [] ts e) tt
turns_ok k (None ∷ ls) ts e = absurd (bad_good 1 k ts e)
turns_ok k (Some l ∷ ls) ts e = go (turn_line l) (turns_from (k + 1) ls) refl (λ us q. turns_ok (k + 1) ls us q) e
  where
    go : (o : Option TurnLine) (r : Outcome (List TurnLine)) → turn_line l ≡ o → ((us : List TurnLine) → r ≡ Good us → All TurnOk us) → turn_then o k r ≡ Good ts → All TurnOk ts
    go None r p others w = absurd (bad_good 1 k ts w)
    go (Some t) (Good us) p others w = subst (All TurnOk) (good_same (t ∷ us) ts w) (turn_ok (after (codes "turn ") l) l t p, others us refl)
    go (Some t) (Bad n m) p others w = absurd (bad_good n m ts w)

with_ok : (c d : Config) (r : Outcome (List TurnLine)) → Fine c → ((ts : List TurnLine) → r ≡ Good ts → All TurnOk ts) → with_turns c r ≡ Good d → Fine d
with_ok c d (Good ts) f all e =
    subst Fine (good_same (record { sites = c.sites; opens = c.opens; turns = ts }) d e)
    (record { sites = f.sites; apart = f.apart; opens = f.opens; turns = all ts refl; few-sites = f.few-sites; few-opens = f.few-opens })
with_ok c d (Bad n l) f all e = absurd (bad_good n l d e)

pub fine_lines : (ls : List (Option (List ℕ))) (c d : Config) (k : ℕ) → Fine c → lines_from c k ls ≡ Good d → Fine d
fine_lines [] c d k f e = subst Fine (good_same c d e) f
fine_lines (None ∷ ls) c d k f e = absurd (bad_good 1 k d e)
fine_lines (Some l ∷ ls) c d k f e = go (head_line l) refl (λ x. fine_lines ls x d (k + 1)) e
  where
    go : (o : Option (Bool × (List ℕ × ℕ × List ℕ))) → head_line l ≡ o → ((x : Config) → Fine x → lines_from x (k + 1) ls ≡ Good d → Fine d) → head_then c o k (λ x. lines_from x (k + 1) ls) (with_turns c (turns_from k (Some l ∷ ls))) ≡ Good d → Fine d
    go None p others w = with_ok c d (turns_from k (Some l ∷ ls)) f (turns_ok k (Some l ∷ ls)) w
    go (Some h) p others w =
        let ok = open_ok (after (codes "open ") l) l h p in
        ⊎_elim
        (λ y. others (added c h) (fine_added c h f ok.0 ok.1 y) (sym (cond-true (few (added c h)) (lines_from (added c h) (k + 1) ls) (Bad 2 k) y) ∙ w))
        (λ n. absurd (bad_good 2 k d (sym (cond-false (few (added c h)) (lines_from (added c h) (k + 1) ls) (Bad 2 k) n) ∙ w)))
        (cases_Bool (few (added c h)))
