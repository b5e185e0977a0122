-- Settings that were read fit a plan.
use Rattle.std.proofs.Common.{◌≡◌, ℕ, ◌<◌, ◌≤◌, Bool, true, ◌&&◌, eqb, ltb, leb, List, [], ◌∷◌, length, get_or, refl, arith}
use Rattle.std.specs.List.{prefix_len}
use Rattle.std.proofs.lemmas.Bool.{and_parts, and_from, lt-ltb, le-leb}
use Rattle.octets.specs.declared.Class.TheVariants.{Visible}
use Rattle.octets.specs.Classes.{has}
use Rattle.addresses.specs.Address.{labels}
use Rattle.settings.specs.Lines.{lines}
use Rattle.settings.specs.Settings.{Config, Good, no_settings, read_settings}
use Rattle.settings.proofs.Fine.{All, SiteOk, OpenOk, Fine, fine_lines}
use Rattle.settings.proofs.Places.{nth-within}
use Rattle.plans.specs.Fits.{each, is_site, opening_ok, AllSites, AllOpenings}

fine : (s : List ℕ) (c : Config) → read_settings s ≡ Good c → Fine c
fine s c e = fine_lines (lines s) no_settings c 1 (record { sites = tt; apart = tt; opens = tt; turns = tt; few-sites = omega arith; few-opens = omega arith }) e

each_of : {A : Type 0} (P : A → Type 0) (f : A → Bool) → ((x : A) → P x → f x ≡ true) → (xs : List A) → All P xs → each f xs ≡ true
unfolding each
each_of P f k [] h = refl
each_of P f k (x ∷ xs) h = and_from (f x) (each f xs) (k x h.0) (each_of P f k xs h.1)

site-fits : (s : List ℕ × ℕ) → SiteOk s → is_site s ≡ true
site-fits s h = and_from (labels 8 s.0) (ltb 0 s.1 && leb s.1 65535) h.0 (and_from (ltb 0 s.1) (leb s.1 65535) (lt-ltb 0 s.1 h.1.0) (le-leb s.1 65535 h.1.1))

opening-fits : (ss : List (List ℕ × ℕ)) → length ss ≤ 16 → (o : ℕ × List ℕ) → OpenOk ss o → opening_ok o ≡ true
opening-fits ss few o h =
    let w : o.0 < length ss = nth-within ss o.0 h.site h.there in
    let p = and_parts (ltb 0 (length o.1)) (leb (length o.1) 255 && (eqb (get_or o.1 0 0) 47 && eqb (prefix_len (has Visible) o.1) (length o.1))) h.path in
    and_from (ltb o.0 16) (leb (length o.1) 255) (lt-ltb o.0 16 (omega arith)) (and_parts (leb (length o.1) 255) (eqb (get_or o.1 0 0) 47 && eqb (prefix_len (has Visible) o.1) (length o.1)) p.1).0

pub all-sites : (s : List ℕ) (c : Config) → read_settings s ≡ Good c → AllSites c.sites
all-sites s c e = let f = fine s c e in (f.few-sites, each_of SiteOk is_site site-fits c.sites f.sites)

pub all_openings : (s : List ℕ) (c : Config) → read_settings s ≡ Good c → AllOpenings c.opens
all_openings s c e = let f = fine s c e in (f.few-opens, each_of (OpenOk c.sites) opening_ok (opening-fits c.sites f.few-sites) c.opens f.opens)
