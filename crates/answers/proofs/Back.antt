-- An answer that was written is read back. Assumes nothing.
use Rattle.std.proofs.Common.{◌≡◌, ℕ, ◌^◌, ◌<◌, ◌≤◌, true, false, ◌&&◌, eqb, ltb, leb, List, [], ◌∷◌, ◌++◌, length, get_or, Some, None, codes, decimal, Option, refl, ap, ◌∙◌, append_assoc, arith}
use Rattle.std.specs.List.{prefix_len}
use Rattle.std.proofs.lemmas.Fmt.{decimal_nonempty}
use Rattle.std.proofs.lemmas.Bool.{cond-true, cond-false, and_from, and_parts, and_right, leb-true, eqb-true, eq-eqb, lt-ltb}
use Rattle.octets.specs.declared.Class.TheVariants.{Digit, Visible}
use Rattle.octets.specs.Answers.{Answer, Read, Fault}
use Rattle.octets.specs.Classes.{has}
use Rattle.octets.specs.Fronts.{and_then, after}
use Rattle.octets.specs.Numbers.{number}
use Rattle.octets.proofs.Fronts.{leading_stops, front-append, past-append}
use Rattle.octets.proofs.Numbers.{number_digits, number-decimal}
use Rattle.addresses.specs.Address.{read_site}
use Rattle.addresses.specs.Written.{site_text}
use Rattle.lines.specs.Heads.{read_then, head}
use Rattle.lines.specs.Lines.{crlf, line_then, field_text, among, token_ok, token_fits, token_line, length_line}
use Rattle.lines.proofs.Back.{line_back, field_then_lem, fields-end}
use Rattle.lines.proofs.Values.{decimal_digits, decimal_visible, site_visible, site_back}
use Rattle.answers.specs.declared.Kind.{Kind}
use Rattle.answers.specs.declared.Kind.TheVariants.{Asked, Page}
use Rattle.answers.specs.Answers.{limit, Allows, All, Only, Known, unknown, length_field, length_from, allows_of, allowed_field, taking, status_then, Content, body_of, answer_from, read_answer}
use Rattle.answers.specs.Written.{three_digits, allows_text, allowed_line, answer_text, allows_fits, can_write}
use Rattle.answers.proofs.Digits.{three_back}

-- the status line
status_back : (code : ℕ) (rest : List ℕ) → code ≤ 999 → status_then (codes "HTTP/1.1 " ++ (three_digits code ++ (codes " " ++ (crlf ++ rest)))) ≡ Some (code, rest)
status_back code rest most =
    let ds = three_digits code in
    let e = three_back code most in
    let digits = number_digits 999 0 code ds e in
    let end = codes " " ++ (crlf ++ rest) in
    cond-true (eqb (prefix_len (has Digit) (ds ++ end)) 3) _ None (eq-eqb _ 3 (leading_stops (has Digit) ds end digits refl))
    ∙ (λ i. and_then (number 999 0 (front-append (has Digit) ds end digits refl i)) (λ n. and_then (after (codes " ") (past-append (has Digit) ds end digits refl i)) (λ u. and_then (line_then u) (λ p. Some (n, p.1)))))
    ∙ ap (λ o. and_then o (λ n. and_then (line_then (crlf ++ rest)) (λ p. Some (n, p.1)))) e
    ∙ ap (λ o. and_then o (λ p. Some (code, p.1))) (line_back [] rest refl)

-- what is known after the lines of an answer
abbrev known : Kind → Option ℕ → Option (List ℕ) → Option Allows → Known
known kind n t a = record { kind = kind; length = n; token = t; allowed = a }

-- the names of those lines
abbrev token_names : Option (List ℕ) → List (List ℕ)
token_names None = []
token_names (Some t) = codes "set-cookie" ∷ []

abbrev allowed_names : List (List ℕ) → Option Allows → List (List ℕ)
allowed_names names None = names
allowed_names names (Some a) = names ++ (codes "access-control-allow-origin" ∷ [])

-- the fields that are left, by what is known and the names before
abbrev left : List (List ℕ) → Known → List ℕ → Answer (Known × List ℕ)
left names f s = head taking (length s) names f s

token_then : (kind : Kind) (t : Option (List ℕ)) (rest : List ℕ) → token_fits t ≡ true → left [] (unknown kind) (token_line (codes "set-cookie: ") t ++ rest) ≡ left (token_names t) (known kind None t None) rest
token_then kind None rest ok = refl
token_then kind (Some t) rest ok =
    let visible = eqb-true (prefix_len (has Visible) t) (length t) (and_parts (leb (length t) 64) (eqb (prefix_len (has Visible) t) (length t)) ok).1 in
    ap (left [] (unknown kind)) (append_assoc (field_text (codes "set-cookie") t) crlf rest)
    ∙ field_then_lem (codes "set-cookie") t refl refl visible taking [] (unknown kind) (known kind None (Some t) None) rest (cond-true (token_ok t) (Read (known kind None (Some t) None)) (Fault 7) ok) refl

allows_visible : (a : Allows) → allows_fits (Some a) ≡ true → prefix_len (has Visible) (allows_text a) ≡ length (allows_text a)
allows_visible All ok = refl
allows_visible (Only host port) ok = site_visible host port ok

allows_back : (a : Allows) → allows_fits (Some a) ≡ true → allows_of (allows_text a) ≡ Some a
allows_back All ok = refl
allows_back (Only host port) ok =
    let v = site_text host port in
    cond-false (eqb (length v) 1 && eqb (get_or v 0 0) 42) (Some All) (and_then (read_site v) (λ s. Some (Only s.0 s.1))) (and_right (eqb (length v) 1) (eqb (get_or v 0 0) 42) refl)
    ∙ ap (λ o. and_then o (λ s. Some (Only s.0 s.1))) (site_back host port ok)

allowed_new : (t : Option (List ℕ)) → among (codes "access-control-allow-origin") (token_names t) ≡ false
allowed_new None = refl
allowed_new (Some t) = refl

allowed_then : (kind : Kind) (t : Option (List ℕ)) (a : Option Allows) (rest : List ℕ) → allows_fits a ≡ true → left (token_names t) (known kind None t None) (allowed_line a ++ rest) ≡ left (allowed_names (token_names t) a) (known kind None t a) rest
allowed_then kind t None rest ok = refl
allowed_then kind t (Some a) rest ok =
    ap (left (token_names t) (known kind None t None)) (append_assoc (field_text (codes "access-control-allow-origin") (allows_text a)) crlf rest)
    ∙ field_then_lem (codes "access-control-allow-origin") (allows_text a) refl refl (allows_visible a ok) taking (token_names t) (known kind None t None) (known kind None t (Some a)) rest (ap (allowed_field (known kind None t None)) (allows_back a ok)) (allowed_new t)

length_new : (t : Option (List ℕ)) (a : Option Allows) → among (codes "content-length") (allowed_names (token_names t) a) ≡ false
length_new None None = refl
length_new None (Some a) = refl
length_new (Some t) None = refl
length_new (Some t) (Some a) = refl

limit-small : (kind : Kind) → limit kind ≤ 16384
limit-small Asked = omega arith
limit-small Page = omega arith

length-takes : (kind : Kind) (t : Option (List ℕ)) (a : Option Allows) (n : ℕ) → n ≤ limit kind → length_field (known kind None t a) (decimal n) ≡ Read (known kind (Some n) t a)
length-takes kind t a n fit =
    let small : n < 2 ^ 64 = omega (arith, limit-small kind) in
    let f = known kind None t a in
    let ds = decimal n in
    cond-true (ltb 0 (length ds) && eqb (prefix_len (has Digit) ds) (length ds)) (length_from f (number (limit kind) 0 ds)) (Fault 7)
    (and_from (ltb 0 (length ds)) (eqb (prefix_len (has Digit) ds) (length ds)) (lt-ltb 0 (length ds) (decimal_nonempty n small)) (eq-eqb _ _ (decimal_digits n small)))
    ∙ ap (length_from f) (number-decimal (limit kind) n fit small)

body_then : (kind : Kind) (t : Option (List ℕ)) (a : Option Allows) (body : List ℕ) → length body ≤ limit kind → left (allowed_names (token_names t) a) (known kind None t a) (length_line body ++ body) ≡ Read (known kind (Some (length body)) t a, body)
body_then kind t a body fit =
    let n = length body in
    let small : n < 2 ^ 64 = omega (arith, limit-small kind) in
    let regroup : length_line body ++ body ≡ field_text (codes "content-length") (decimal n) ++ (crlf ++ (crlf ++ body)) = ap (λ l. codes "content-length: " ++ l) (append_assoc (decimal n) (crlf ++ crlf) body) in
    let names = allowed_names (token_names t) a in
    ap (left names (known kind None t a)) regroup
    ∙ field_then_lem (codes "content-length") (decimal n) refl refl (decimal_visible n small) taking names (known kind None t a) (known kind (Some n) t a) (crlf ++ body) (length-takes kind t a n fit) (length_new t a)
    ∙ fields-end taking (names ++ (codes "content-length" ∷ [])) (known kind (Some n) t a) body

pub answer_back : (kind : Kind) (a : Content) → can_write kind a ≡ true → read_answer kind (answer_text a) ≡ Read a
answer_back kind a ok =
    let p = and_parts (leb a.code 999) (token_fits a.token && (allows_fits a.allowed && leb (length a.body) (limit kind))) ok in
    let q = and_parts (token_fits a.token) (allows_fits a.allowed && leb (length a.body) (limit kind)) p.1 in
    let r = and_parts (allows_fits a.allowed) (leb (length a.body) (limit kind)) q.1 in
    let rest2 = length_line a.body ++ a.body in
    let rest1 = allowed_line a.allowed ++ rest2 in
    let n = length a.body in
    ap (answer_from kind) (status_back a.code (token_line (codes "set-cookie: ") a.token ++ rest1) (leb-true a.code 999 p.0))
    ∙ ap (λ o. read_then o (λ h. body_of a.code h.0 h.0.length h.1))
    (token_then kind a.token rest1 q.0 ∙ allowed_then kind a.token a.allowed rest2 r.0 ∙ body_then kind a.token a.allowed a.body (leb-true n (limit kind) r.1))
    ∙ cond-true (eqb n n) (Read a) (Fault 6) (eq-eqb n n refl)
