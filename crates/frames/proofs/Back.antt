-- A head that was written is short, and is read back.
use Rattle.std.proofs.Common.{◌≡◌, ℕ, ◌≤◌, true, cond, ◌&&◌, eqb, ltb, leb, List, ◌++◌, length, IfSome, Some, None, codes, decimal, Option, sym, refl, ap, ◌∙◌, arith, length-append}
use Rattle.std.proofs.lemmas.Fmt.{length-decimal-le}
use Rattle.std.proofs.lemmas.Bool.{and_parts, leb-true, cond_both}
use Rattle.octets.specs.declared.Class.TheVariants.{Visible}
use Rattle.octets.specs.Classes.{has}
use Rattle.octets.specs.Buffers.{count}
use Rattle.octets.proofs.Options.{some_same, cond-some}
use Rattle.octets.specs.Fronts.{and_then, after}
use Rattle.octets.proofs.Fronts.{front-append, past-append}
use Rattle.addresses.specs.Address.{labels, site_ok, read_site}
use Rattle.addresses.specs.Written.{port_text, site_text}
use Rattle.lines.proofs.Values.{site_visible, site_back}
use Rattle.storage.proofs.Rows.{host_short}
use Rattle.words.specs.Numerals.{number_after}
use Rattle.words.proofs.Back.{number_back}
use Rattle.frames.specs.declared.Kind.{Kind}
use Rattle.frames.specs.declared.Kind.TheVariants.{Request, Answer}
use Rattle.frames.specs.Heads.{Heading, kind_text, head_text, can_write, is_last, head_from, read_head}

abbrev made : Kind → List ℕ × ℕ → ℕ → Option Heading
made k s n = Some (record { kind = k; site = s; len = n })

module _ (h : Heading) (ok : can_write h ≡ true) where
  is_site_lem : site_ok h.site.0 h.site.1 ≡ true
  is_site_lem = (and_parts (site_ok h.site.0 h.site.1) (leb h.len 999999999) ok).0

  few : h.len ≤ 999999999
  few = leb-true h.len 999999999 (and_parts (site_ok h.site.0 h.site.1) (leb h.len 999999999) ok).1

  from_back : head_from h.kind (site_text h.site.0 h.site.1 ++ ((codes " " ++ decimal h.len) ++ codes "\n")) ≡ Some h
  from_back =
      let t = site_text h.site.0 h.site.1 in
      let end = (codes " " ++ decimal h.len) ++ codes "\n" in
      let seen = site_visible h.site.0 h.site.1 is_site_lem in
      (λ i. and_then (read_site (front-append (has Visible) t end seen refl i)) (λ site. and_then (number_after (codes " ") 999999999 (past-append (has Visible) t end seen refl i)) (λ n. cond (is_last (after (codes "\n") n.1)) (made h.kind site n.0) None)))
      ∙ ap (λ o. and_then o (λ site. and_then (number_after (codes " ") 999999999 end) (λ n. cond (is_last (after (codes "\n") n.1)) (made h.kind site n.0) None))) (site_back h.site.0 h.site.1 is_site_lem)
      ∙ ap (λ o. and_then o (λ n. cond (is_last (after (codes "\n") n.1)) (made h.kind h.site n.0) None)) (number_back (codes " ") 999999999 h.len (codes "\n") few (omega (arith, few)) refl)

  pub head_short : length (head_text h) ≤ 544
  head_short =
      let host = h.site.0 in
      let port = h.site.1 in
      let site = and_parts (labels 8 host) (ltb 0 port && leb port 65535) is_site_lem in
      let most = leb-true port 65535 (and_parts (ltb 0 port) (leb port 65535) site.1).1 in
      let digits : length (decimal port) ≤ 5 = length-decimal-le 5 port (omega arith) (omega arith) (omega arith) in
      let count : length (decimal h.len) ≤ 9 = length-decimal-le 9 h.len (omega arith) (omega (arith, few)) (omega (arith, few)) in
      let tail : length (port_text port) ≤ 6 = cond_both (eqb port 443) _ (codes ":" ++ decimal port) (λ t. length t ≤ 6) (λ _. omega arith) (λ _. omega arith) in
      let end = (codes " " ++ decimal h.len) ++ codes "\n" in
      omega (arith, kind_short h.kind, length-append (kind_text h.kind) (site_text host port ++ end), length-append (site_text host port) end, length-append host (port_text port), length-append (decimal h.len) (codes "\n"), host_short 8 host site.0)
    where
      kind_short : (k : Kind) → length (kind_text k) ≤ 8
      kind_short Request = omega arith
      kind_short Answer = omega arith

pub head_back : (h : Heading) → can_write h ≡ true → read_head (head_text h) ≡ Some h
head_back h ok = by_kind h.kind refl
  where
    by_kind : (k : Kind) → h.kind ≡ k → read_head (kind_text k ++ (site_text h.site.0 h.site.1 ++ ((codes " " ++ decimal h.len) ++ codes "\n"))) ≡ Some h
    by_kind Request e = ap (λ k. head_from k (site_text h.site.0 h.site.1 ++ ((codes " " ++ decimal h.len) ++ codes "\n"))) (sym e) ∙ from_back h ok
    by_kind Answer e = ap (λ k. head_from k (site_text h.site.0 h.site.1 ++ ((codes " " ++ decimal h.len) ++ codes "\n"))) (sym e) ∙ from_back h ok

-- what was written is as long as its text
pub count-within : (t out : List ℕ) (r : Option ℕ) → r ≡ count t out → length t ≤ 544 → IfSome r (λ n. n ≤ 544)
count-within t out None e short = tt
count-within t out (Some n) e short = let h = some_same (length t) n (cond-some (leb (length t) (length out)) (Some (length t)) n (sym e)).1 in omega arith
