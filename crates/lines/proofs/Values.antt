-- Values of fields as they are written: numbers and sites. Assumes nothing.
use Rattle.std.proofs.Common.{◌≡◌, ℕ, ◌^◌, ◌<◌, ◌≤◌, true, ◌&&◌, eqb, ltb, leb, List, [], ◌++◌, length, Some, codes, decimal, sym, refl, ap, ◌∙◌, append-nil, arith}
use Rattle.std.specs.List.{prefix_len}
use Rattle.std.proofs.lemmas.Bool.{cond-true, cond_both, and_parts, leb-true, ltb-true}
use Rattle.std.proofs.lemmas.Bool.Decides.{nat_tests}
use Rattle.octets.specs.declared.Class.TheVariants.{Name, Visible}
use Rattle.octets.specs.Classes.{has, is_digit}
use Rattle.octets.specs.Fronts.{and_then, front, past}
use Rattle.octets.proofs.Fronts.{front-append, past-append, all_append}
use Rattle.octets.proofs.Numbers.{number_digits, number-decimal}
use Rattle.addresses.specs.Address.{labels, site_ok, host_then, site_then, end_from, read_site}
use Rattle.addresses.specs.Written.{port_text, site_text}
use Rattle.addresses.proofs.Back.{host_names, nothing_ends, port_back, port_stops, written_back}
use Rattle.lines.proofs.Back.{all_wider, digit_visible}

pub decimal_digits : (n : ℕ) → n < 2 ^ 64 → prefix_len is_digit (decimal n) ≡ length (decimal n)
decimal_digits n h = number_digits n 0 n (decimal n) (number-decimal n n (omega arith) h)

pub decimal_visible : (n : ℕ) → n < 2 ^ 64 → prefix_len (has Visible) (decimal n) ≡ length (decimal n)
decimal_visible n h = all_wider is_digit (has Visible) digit_visible (decimal n) (decimal_digits n h)

name_visible : (b : ℕ) → has Name b ≡ true → has Visible b ≡ true
name_visible b h = grind (arith, nat_tests)

-- a site within its rules
module _ (host : List ℕ) (port : ℕ) (ok : site_ok host port ≡ true) where
  host_ok : labels 8 host ≡ true
  host_ok = (and_parts (labels 8 host) (ltb 0 port && leb port 65535) ok).0

  port-some : 0 < port
  port-some = ltb-true 0 port (and_parts (ltb 0 port) (leb port 65535) (and_parts (labels 8 host) (ltb 0 port && leb port 65535) ok).1).0

  port_most : port ≤ 65535
  port_most = leb-true port 65535 (and_parts (ltb 0 port) (leb port 65535) (and_parts (labels 8 host) (ltb 0 port && leb port 65535) ok).1).1

  port_visible : prefix_len (has Visible) (port_text port) ≡ length (port_text port)
  port_visible =
      let most : port < 2 ^ 64 = omega (arith, port_most) in
      cond_both (eqb port 443) [] (codes ":" ++ decimal port) (λ t. prefix_len (has Visible) t ≡ length t) (λ _. refl) (λ _. all_append (has Visible) (codes ":") (decimal port) refl (decimal_visible port most))

  pub host_visible : prefix_len (has Visible) (host ++ port_text port) ≡ length (host ++ port_text port)
  host_visible = all_append (has Visible) host (port_text port) (all_wider (has Name) (has Visible) name_visible host (host_names 8 host host_ok)) port_visible

  pub site_visible : prefix_len (has Visible) (site_text host port) ≡ length (site_text host port)
  site_visible = all_append (has Visible) (codes "https://") (host ++ port_text port) refl host_visible

  -- a host and a port
  pub host_back : end_from (host_then (front (has Name) (host ++ port_text port)) (past (has Name) (host ++ port_text port))) ≡ Some (host, port)
  host_back =
      let names = host_names 8 host host_ok in
      let stops : prefix_len (has Name) (port_text port) ≡ 0 = sym (ap (prefix_len (has Name)) (append-nil (port_text port))) ∙ port_stops port [] port-some port_most nothing_ends in
      ap end_from (
      (λ i. host_then (front-append (has Name) host (port_text port) names stops i) (past-append (has Name) host (port_text port) names stops i))
      ∙ ap (host_then host) (sym (append-nil (port_text port)))
      ∙ cond-true _ _ _ host_ok
      ∙ ap (λ o. and_then o (λ p. Some (host, p.0, p.1))) (port_back port [] port-some port_most nothing_ends))

  -- a whole site
  pub site_back : read_site (site_text host port) ≡ Some (host, port)
  site_back = ap (λ t. end_from (site_then t)) (sym (append-nil (site_text host port))) ∙ ap end_from (written_back host [] port host_ok port-some port_most nothing_ends)
