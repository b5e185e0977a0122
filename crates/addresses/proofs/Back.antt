-- A site that was written is read back. Assumes nothing.
use Rattle.std.proofs.Common.{◌≡◌, ℕ, zero, suc, ◌+◌, ◌-◌, ◌*◌, ◌<◌, ◌≤◌, true, eqb, ltb, leb, List, [], ◌∷◌, ◌++◌, length, get_or, Some, None, codes, decimal, Option, sym, refl, ap, ◌∙◌, subst, ⊎_elim, append_assoc, append-nil, arith}
use Rattle.std.specs.List.{prefix_len}
use Rattle.std.proofs.lemmas.Bool.{cond-true, cond-false, and_parts, leb-true, eqb-true, eqb-false, ne_eqb, cases_Bool, or_left, cond_both, true≢false}
use Rattle.std.proofs.lemmas.List.{take-append-drop, nil_from_length}
use Rattle.std.proofs.lemmas.Fmt.{first_decimal}
use Rattle.octets.specs.declared.Class.TheVariants.{Digit, Label, Name}
use Rattle.octets.specs.Answers.{Read, Fault}
use Rattle.octets.specs.Classes.{is_digit, has}
use Rattle.octets.specs.Fronts.{and_then, after, front, past}
use Rattle.octets.specs.Numbers.{number}
use Rattle.octets.proofs.Fronts.{after-append, after-some, front-append, past-append, all_append, all-front}
use Rattle.octets.proofs.Numbers.{digit_step, number_range, number_digits, number-decimal}
use Rattle.octets.proofs.Options.{none-some, some_same, cond-some, then_some}
use Rattle.addresses.specs.Address.{port, port_then, port_from, labels, label_ok, dot_then, host_then, site_then, end_from, path_from, path_ok, read_site, read_address}
use Rattle.addresses.specs.Written.{port_text, site_text, SiteReadsBack, AddressReadsBack, AnyPortReads}

port_range : (ds : List ℕ) (v : ℕ) → port ds ≡ Some v → (0 < v) × (v ≤ 65535)
port_range [] v e = absurd (none-some v e)
port_range (d ∷ ds) v e =
    ⊎_elim
    (λ z. absurd (none-some v (sym (cond-true (eqb d 48) None (number 65535 0 (d ∷ ds)) z) ∙ e)))
    (λ z.
    let h = digit_step 65535 0 v d ds (sym (cond-false (eqb d 48) None (number 65535 0 (d ∷ ds)) z) ∙ e) in
    let r = number_range 65535 (0 * 10 + (d - 48)) v ds h.1 h.2 in
    (omega (arith, r.0, eqb-false d 48 z, leb-true 48 d (and_parts (leb 48 d) (leb d 57) h.0).0), r.1))
    (cases_Bool (eqb d 48))

port-decimal : (n : ℕ) → 0 < n → n ≤ 65535 → port (decimal n) ≡ Some n
port-decimal n h l = starts (decimal n) (first_decimal n h (omega arith)) (number-decimal 65535 n l (omega arith))
  where
    starts : (ds : List ℕ) → 48 < get_or ds 0 0 → number 65535 0 ds ≡ Some n → port ds ≡ Some n
    starts [] f e = absurd (omega arith)
    starts (d ∷ ds) f e = cond-false _ _ _ (ne_eqb d 48 (λ q. omega arith)) ∙ e

-- a host has no bytes but those of its class
dot_names : (k : ℕ) (s : List ℕ) (o : Option (List ℕ)) → after (codes ".") s ≡ o → dot_then (labels k) o s ≡ true → ((t : List ℕ) → labels k t ≡ true → prefix_len (has Name) t ≡ length t) → prefix_len (has Name) s ≡ length s
dot_names k s None q h rest = let z : s ≡ [] = nil_from_length s (eqb-true (length s) 0 h) in (λ i. prefix_len (has Name) (z i)) ∙ sym (λ i. length (z i))
dot_names k s (Some t) q h rest =
    let z : s ≡ 46 ∷ t = after-some (codes ".") s t q in
    let g : 1 + prefix_len (has Name) t ≡ suc (length t) = omega (arith, rest t h) in
    (λ i. prefix_len (has Name) (z i)) ∙ g ∙ sym (λ i. length (z i))

pub host_names : (k : ℕ) (s : List ℕ) → labels k s ≡ true → prefix_len (has Name) s ≡ length s
unfolding labels
host_names zero s e = absurd (true≢false (sym e))
host_names (suc k) s e =
    let whole : front (has Label) s ++ past (has Label) s ≡ s = take-append-drop _ s in
    let h = (and_parts (label_ok (front (has Label) s)) (dot_then (labels k) (after (codes ".") (past (has Label) s)) (past (has Label) s)) e).1 in
    let f : prefix_len (has Name) (front (has Label) s) ≡ length (front (has Label) s) = all-front (has Label) (has Name) (λ b y. or_left (has Label b) (eqb b 46) y) s in
    let g : prefix_len (has Name) (past (has Label) s) ≡ length (past (has Label) s) = dot_names k (past (has Label) s) (after (codes ".") (past (has Label) s)) refl h (λ t. host_names k t) in
    sym (λ i. prefix_len (has Name) (whole i)) ∙ all_append (has Name) _ _ f g ∙ (λ i. length (whole i))

-- what may follow a port: no byte of a host, no colon, no digit
pub record Ends (rest : List ℕ) : Type 0 where
  pub name : prefix_len (has Name) rest ≡ 0
  pub digit : prefix_len (has Digit) rest ≡ 0
  pub colon : after (codes ":") rest ≡ None

pub nothing_ends : Ends []
nothing_ends = record { name = refl; digit = refl; colon = refl }

path-ends : (p : List ℕ) → path_ok p ≡ true → Ends p
path-ends [] ok = nothing_ends
path-ends (b ∷ p) ok =
    let h = and_parts (leb (length (b ∷ p)) 255) _ (and_parts (ltb 0 (length (b ∷ p))) _ ok).1 in
    let slash : b ≡ 47 = eqb-true b 47 (and_parts (eqb b 47) _ h.1).0 in
    subst (λ (x : ℕ). Ends (x ∷ p)) (sym slash) (record { name = refl; digit = refl; colon = refl })

module _ (n : ℕ) (rest : List ℕ) (some : 0 < n) (most : n ≤ 65535) (ends : Ends rest) where
  -- a port that is written out
  port-out : port_then (codes ":" ++ (decimal n ++ rest)) ≡ Some (n, rest)
  port-out =
      let all : prefix_len is_digit (decimal n) ≡ length (decimal n) = number_digits 65535 0 n (decimal n) (number-decimal 65535 n most (omega arith)) in
      (λ i. and_then (port (front-append (has Digit) (decimal n) rest all ends.digit i)) (λ m. Some (m, past-append (has Digit) (decimal n) rest all ends.digit i)))
      ∙ ap (λ o. and_then o (λ m. Some (m, rest))) (port-decimal n some most)

  -- a port as it is written
  pub port_back : port_then (port_text n ++ rest) ≡ Some (n, rest)
  port_back =
      ⊎_elim
      (λ e. (λ i. port_then (cond-true (eqb n 443) [] (codes ":" ++ decimal n) e i ++ rest)) ∙ ap (λ o. port_from o rest) ends.colon ∙ sym (λ i. Some (eqb-true n 443 e i, rest)))
      (λ e. (λ i. port_then (cond-false (eqb n 443) [] (codes ":" ++ decimal n) e i ++ rest)) ∙ port-out)
      (cases_Bool (eqb n 443))

  pub port_stops : prefix_len (has Name) (port_text n ++ rest) ≡ 0
  port_stops = cond_both (eqb n 443) [] (codes ":" ++ decimal n) (λ t. prefix_len (has Name) (t ++ rest) ≡ 0) (λ _. ends.name) (λ _. refl)

-- a host, and t that has a port
site_back : (host t rest : List ℕ) (n : ℕ) → labels 8 host ≡ true → prefix_len (has Name) t ≡ 0 → port_then t ≡ Some (n, rest) → site_then (codes "https://" ++ (host ++ t)) ≡ Some (host, n, rest)
site_back host t rest n ok stops e =
    let names = host_names 8 host ok in
    ap (λ o. and_then o (λ t. host_then (front (has Name) t) (past (has Name) t))) (after-append (codes "https://") (host ++ t))
    ∙ (λ i. host_then (front-append (has Name) host t names stops i) (past-append (has Name) host t names stops i))
    ∙ cond-true _ _ _ ok
    ∙ ap (λ o. and_then o (λ p. Some (host, p.0, p.1))) e

-- the written form of a site, and what follows it
pub written_back : (host rest : List ℕ) (n : ℕ) → labels 8 host ≡ true → 0 < n → n ≤ 65535 → Ends rest → site_then (site_text host n ++ rest) ≡ Some (host, n, rest)
written_back host rest n ok some most ends =
    ap (λ t. site_then (codes "https://" ++ t)) (append_assoc host (port_text n) rest)
    ∙ site_back host (port_text n ++ rest) rest n ok (port_stops n rest some most ends) (port_back n rest some most ends)

-- a site that was read has a host and a port within their rules
port_known : (o : Option (List ℕ)) (s rest : List ℕ) (n : ℕ) → port_from o s ≡ Some (n, rest) → (0 < n) × (n ≤ 65535)
port_known None s rest n e = let z : 443 ≡ n = ap (λ p. p.0) (some_same (443, s) (n, rest) e) in (omega arith, omega arith)
port_known (Some t) s rest n e =
    let h = then_some (port (front (has Digit) t)) (λ m. Some (m, past (has Digit) t)) (n, rest) e in
    let z : h.0 ≡ n = ap (λ p. p.0) (some_same (h.0, past (has Digit) t) (n, rest) h.2) in
    let r = port_range (front (has Digit) t) h.0 h.1 in
    (omega arith, omega arith)

site_known : (s host rest : List ℕ) (n : ℕ) → site_then s ≡ Some (host, n, rest) → (labels 8 host ≡ true) × ((0 < n) × (n ≤ 65535))
site_known s host rest n e =
    let a = then_some (after (codes "https://") s) (λ t. host_then (front (has Name) t) (past (has Name) t)) (host, n, rest) e in
    let t = a.0 in
    let b = cond-some (labels 8 (front (has Name) t)) (and_then (port_then (past (has Name) t)) (λ p. Some (front (has Name) t, p.0, p.1))) (host, n, rest) a.2 in
    let d = then_some (port_then (past (has Name) t)) (λ p. Some (front (has Name) t, p.0, p.1)) (host, n, rest) b.1 in
    let same = some_same (front (has Name) t, d.0.0, d.0.1) (host, n, rest) d.2 in
    let number : d.0.0 ≡ n = ap (λ p. p.1) same in
    let r = port_known (after (codes ":") (past (has Name) t)) (past (has Name) t) d.0.1 d.0.0 d.1 in
    (sym (ap (λ p. labels 8 p.0) same) ∙ b.0, (omega arith, omega arith))

end_known : (o : Option (List ℕ × ℕ × List ℕ)) (host : List ℕ) (n : ℕ) → end_from o ≡ Some (host, n) → (rest : List ℕ) × (o ≡ Some (host, n, rest))
end_known None host n e = absurd (none-some (host, n) e)
end_known (Some a) host n e =
    let h = cond-some (eqb (length a.2) 0) (Some (a.0, a.1)) (host, n) e in
    (a.2, ap (λ p. Some (p.0, p.1, a.2)) (some_same (a.0, a.1) (host, n) h.1))

pub site_reads_back : SiteReadsBack
site_reads_back s host n e =
    let h = end_known (site_then s) host n e in
    let k = site_known s host h.0 n h.1 in
    ap read_site (sym (append-nil (site_text host n))) ∙ ap end_from (written_back host [] n k.0 k.1.0 k.1.1 nothing_ends)

pub any_port_reads : AnyPortReads
any_port_reads host n ok some most =
    ap (λ t. read_site (codes "https://" ++ (host ++ (codes ":" ++ t)))) (sym (append-nil (decimal n)))
    ∙ ap end_from (site_back host (codes ":" ++ (decimal n ++ [])) [] n ok refl (port-out n [] some most nothing_ends))

-- an address that was read
read_same : {A : Type 0} (x y : A) → Read x ≡ Read y → x ≡ y
read_same x y e = cc

fault_read : {A : Type 0} (n : ℕ) (x : A) → Fault n ≡ Read x → ⊥
fault_read n x e = let z : ◌≡◌ {A = ℕ} 0 1 = cc in omega arith

path_known : (o : Option (List ℕ × ℕ × List ℕ)) (a : List ℕ × ℕ × List ℕ) → path_from o ≡ Read a → (o ≡ Some a) × (path_ok a.2 ≡ true)
path_known None a e = absurd (fault_read 1 a e)
path_known (Some b) a e =
    ⊎_elim
    (λ y. let z : b ≡ a = read_same b a (sym (cond-true (path_ok b.2) (Read b) (Fault 1) y) ∙ e) in (ap Some z, sym (ap (λ x. path_ok x.2) z) ∙ y))
    (λ n. absurd (fault_read 1 a (sym (cond-false (path_ok b.2) (Read b) (Fault 1) n) ∙ e)))
    (cases_Bool (path_ok b.2))

pub address_back : (host path : List ℕ) (n : ℕ) → labels 8 host ≡ true → 0 < n → n ≤ 65535 → path_ok path ≡ true → read_address (site_text host n ++ path) ≡ Read (host, n, path)
address_back host path n ok some most good = ap path_from (written_back host path n ok some most (path-ends path good)) ∙ cond-true _ _ _ good

pub address_known : (s host path : List ℕ) (n : ℕ) → read_address s ≡ Read (host, n, path) → (labels 8 host ≡ true) × ((0 < n) × (n ≤ 65535)) × (path_ok path ≡ true)
address_known s host path n e =
    let h = path_known (site_then s) (host, n, path) e in
    let k = site_known s host path n h.0 in
    (k.0, k.1, h.1)

pub address_reads_back : AddressReadsBack
address_reads_back s host path n e =
    let k = address_known s host path n e in
    address_back host path n k.0 k.1.0 k.1.1 k.2
