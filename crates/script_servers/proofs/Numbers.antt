-- The number of a site in a table: its place among the first 16 sites.
use Rattle.std.proofs.Common.{◌≡◌, ℕ, zero, suc, ◌+◌, ◌≤◌, Bool, true, false, cond, ltb, leb, List, [], ◌∷◌, length, take, Some, None, sym, refl, ap, ◌∙◌, arith}
use Rattle.std.specs.List.{position_or_len}
use Rattle.std.specs.Option.{unwrap_or}
use Rattle.std.proofs.lemmas.Bool.{cond-true, cond-false, le-leb, lt-leb}
use Rattle.addresses.specs.declared.Site.{Site}
use Rattle.addresses.specs.Views.{site_of, site_eq}
use Rattle.answers.proofs.Sites.{same_site_is}
use Rattle.script_servers.specs.Told.{number_from}
use Rattle.script_servers.specs.Views.{sites_of}
use Rattle.script_servers.proofs.Tables.{parts_decide}

number-full : (n : ℕ) (sites : List (List ℕ × ℕ)) (site : List ℕ × ℕ) → 16 ≤ n → number_from n sites site ≡ 16
unfolding number_from
number-full n [] site h = refl
number-full n (x ∷ xs) site h = cond-true (leb 16 n) _ _ (le-leb 16 n h)

-- what a search among some sites finds, counted from n on
abbrev found : (Site → Bool) → ℕ → List Site → ℕ
found test n ys = cond (ltb (position_or_len test ys) (length ys)) (n + position_or_len test ys) 16

found_more : (test : Site → Bool) (n : ℕ) (y : Site) (ys : List Site) (b : Bool) → test y ≡ b → cond b n (found test (n + 1) ys) ≡ found test n (y ∷ ys)
found_more test n y ys true e = grind (arith, e)
found_more test n y ys false e = grind (arith, e)

module _ (site : Site) where
  number_found : (m n : ℕ) (xs : List Site) → n + m ≡ 16 → number_from n (sites_of xs) (site_of site) ≡ found (λ x. site_eq x site) n (take m xs)
  unfolding number_from
  number_found zero n xs h = number-full n (sites_of xs) (site_of site) (omega arith)
  number_found (suc m) n [] h = refl
  number_found (suc m) n (x ∷ xs) h =
      cond-false (leb 16 n) _ _ (lt-leb 16 n (omega arith))
      ∙ ap (λ b. cond b n (number_from (n + 1) (sites_of xs) (site_of site))) (sym (same_site_is (site_of x) (site_of site) (site_eq x site) (parts_decide (site_of x) (site_of site))))
      ∙ ap (cond (site_eq x site) n) (number_found m (n + 1) xs (omega arith))
      ∙ found_more (λ y. site_eq y site) n x (take m xs) (site_eq x site) refl

pub number-position : (site : Site) (xs : List Site) → unwrap_or (cond (ltb (position_or_len (λ x. site_eq x site) (take 16 xs)) (length (take 16 xs))) (Some (position_or_len (λ x. site_eq x site) (take 16 xs))) None) 16 ≡ number_from 0 (sites_of xs) (site_of site)
number-position site xs = grind (arith, number_found site 16 0 xs refl)
