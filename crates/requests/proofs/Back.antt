-- A request that was written is read back. Assumes nothing.
use Rattle.std.proofs.Common.{◌≡◌, ℕ, ◌^◌, ◌<◌, ◌≤◌, true, false, ◌&&◌, eqb, ltb, leb, List, [], ◌∷◌, ◌++◌, length, get_or, Some, None, codes, decimal, Option, refl, ap, ◌∙◌, append_assoc, arith}
use Rattle.std.specs.List.{prefix_len}
use Rattle.std.proofs.lemmas.Fmt.{decimal_nonempty}
use Rattle.std.proofs.lemmas.Bool.{cond-true, and_parts, leb-true, eqb-true, eq-eqb, lt-ltb}
use Rattle.octets.specs.declared.Class.TheVariants.{Visible}
use Rattle.octets.specs.Answers.{Answer, Read, Fault}
use Rattle.octets.specs.Classes.{has}
use Rattle.octets.specs.Fronts.{and_then, front, past}
use Rattle.octets.specs.Numbers.{number}
use Rattle.octets.proofs.Fronts.{front-append, past-append}
use Rattle.octets.proofs.Numbers.{number-decimal}
use Rattle.addresses.specs.Address.{site_ok, path_ok}
use Rattle.addresses.specs.Written.{port_text, site_text}
use Rattle.lines.specs.Heads.{head, fields}
use Rattle.lines.specs.Lines.{crlf, field_text, among, token_ok, token_fits, token_line, length_line}
use Rattle.lines.proofs.Back.{field_then_lem, fields-end}
use Rattle.lines.proofs.Values.{decimal_visible, host_visible, host_back, site_visible, site_back}
use Rattle.requests.specs.Requests.{Known, unknown, or_unreadable, readable, host_field, origin_field, length_from, taking, Asking, body_of, path_then, read_request}
use Rattle.requests.specs.Written.{host_line, origin_line, request_text, origin_fits, can_write}

abbrev Site : Type 0
Site = List ℕ × ℕ

-- what is known after the lines of a request
abbrev known : Option Site → Option Site → Option (List ℕ) → Option ℕ → Known
known h o t n = record { host = h; origin = o; token = t; length = n }

-- the names of those lines
abbrev origin_names : Option Site → List (List ℕ)
origin_names None = codes "host" ∷ []
origin_names (Some s) = codes "host" ∷ (codes "origin" ∷ [])

abbrev token_names : List (List ℕ) → Option (List ℕ) → List (List ℕ)
token_names names None = names
token_names names (Some t) = names ++ (codes "cookie" ∷ [])

-- the fields that are left, by what is known and the names before
abbrev left : List (List ℕ) → Known → List ℕ → Answer (Known × List ℕ)
left names f s = head taking (length s) names f s

host_then_lem : (h : Site) (rest : List ℕ) → site_ok h.0 h.1 ≡ true → left [] unknown (host_line h ++ rest) ≡ left (codes "host" ∷ []) (known (Some h) None None None) rest
host_then_lem h rest ok =
    let v = h.0 ++ port_text h.1 in
    ap (left [] unknown) (append_assoc (field_text (codes "host") v) crlf rest)
    ∙ field_then_lem (codes "host") v refl refl (host_visible h.0 h.1 ok) taking [] unknown (known (Some h) None None None) rest (ap (host_field unknown) (host_back h.0 h.1 ok)) refl

origin_then : (h : Site) (o : Option Site) (rest : List ℕ) → origin_fits o ≡ true → left (codes "host" ∷ []) (known (Some h) None None None) (origin_line o ++ rest) ≡ left (origin_names o) (known (Some h) o None None) rest
origin_then h None rest ok = refl
origin_then h (Some s) rest ok =
    let v = site_text s.0 s.1 in
    let f = known (Some h) None None None in
    ap (left (codes "host" ∷ []) f) (append_assoc (field_text (codes "origin") v) crlf rest)
    ∙ field_then_lem (codes "origin") v refl refl (site_visible s.0 s.1 ok) taking (codes "host" ∷ []) f (known (Some h) (Some s) None None) rest (ap (origin_field f) (site_back s.0 s.1 ok)) refl

token_new : (o : Option Site) → among (codes "cookie") (origin_names o) ≡ false
token_new None = refl
token_new (Some s) = refl

token_then : (h : Site) (o : Option Site) (t : Option (List ℕ)) (rest : List ℕ) → token_fits t ≡ true → left (origin_names o) (known (Some h) o None None) (token_line (codes "cookie: ") t ++ rest) ≡ left (token_names (origin_names o) t) (known (Some h) o t None) rest
token_then h o None rest ok = refl
token_then h o (Some t) rest ok =
    let visible = eqb-true (prefix_len (has Visible) t) (length t) (and_parts (leb (length t) 64) (eqb (prefix_len (has Visible) t) (length t)) ok).1 in
    let f = known (Some h) o None None in
    ap (left (origin_names o) f) (append_assoc (field_text (codes "cookie") t) crlf rest)
    ∙ field_then_lem (codes "cookie") t refl refl visible taking (origin_names o) f (known (Some h) o (Some t) None) rest (cond-true (token_ok t) (Read (known (Some h) o (Some t) None)) (Fault 6) ok) (token_new o)

length_new : (o : Option Site) (t : Option (List ℕ)) → among (codes "content-length") (token_names (origin_names o) t) ≡ false
length_new None None = refl
length_new None (Some t) = refl
length_new (Some s) None = refl
length_new (Some s) (Some t) = refl

body_then : (h : Site) (o : Option Site) (t : Option (List ℕ)) (body : List ℕ) → length body ≤ 1024 → left (token_names (origin_names o) t) (known (Some h) o t None) (length_line body ++ body) ≡ Read (known (Some h) o t (Some (length body)), body)
body_then h o t body fit =
    let n = length body in
    let ds = decimal n in
    let small : n < 2 ^ 64 = omega arith in
    let names = token_names (origin_names o) t in
    let f = known (Some h) o t None in
    let takes : taking f (codes "content-length") ds ≡ Read (known (Some h) o t (Some n)) =
    cond-true (ltb 0 (length ds)) (length_from f (number 1024 0 ds)) (Fault 6) (lt-ltb 0 (length ds) (decimal_nonempty n small)) ∙ ap (length_from f) (number-decimal 1024 n fit small) in
    ap (λ l. left names f (codes "content-length: " ++ l)) (append_assoc ds (crlf ++ crlf) body)
    ∙ field_then_lem (codes "content-length") ds refl refl (decimal_visible n small) taking names f (known (Some h) o t (Some n)) (crlf ++ body) takes (length_new o t)
    ∙ fields-end taking (names ++ (codes "content-length" ∷ [])) (known (Some h) o t (Some n)) body

path_visible : (path : List ℕ) → path_ok path ≡ true → prefix_len (has Visible) path ≡ length path
path_visible path ok =
    let a = and_parts (ltb 0 (length path)) (leb (length path) 255 && (eqb (get_or path 0 0) 47 && eqb (prefix_len (has Visible) path) (length path))) ok in
    let b = and_parts (leb (length path) 255) (eqb (get_or path 0 0) 47 && eqb (prefix_len (has Visible) path) (length path)) a.1 in
    let d = and_parts (eqb (get_or path 0 0) 47) (eqb (prefix_len (has Visible) path) (length path)) b.1 in
    eqb-true (prefix_len (has Visible) path) (length path) d.1

pub request_back : (q : Asking) → can_write q ≡ true → read_request (request_text q) ≡ Read q
request_back q ok =
    let a = and_parts (site_ok q.site.0 q.site.1) (path_ok q.path && (origin_fits q.origin && (token_fits q.token && leb (length q.body) 1024))) ok in
    let b = and_parts (path_ok q.path) (origin_fits q.origin && (token_fits q.token && leb (length q.body) 1024)) a.1 in
    let d = and_parts (origin_fits q.origin) (token_fits q.token && leb (length q.body) 1024) b.1 in
    let e = and_parts (token_fits q.token) (leb (length q.body) 1024) d.1 in
    let rest3 = length_line q.body ++ q.body in
    let rest2 = token_line (codes "cookie: ") q.token ++ rest3 in
    let rest1 = origin_line q.origin ++ rest2 in
    let rest = host_line q.site ++ rest1 in
    let http = codes " HTTP/1.1" ++ crlf in
    let n = length q.body in
    let visible = path_visible q.path b.0 in
    let read = host_then_lem q.site rest1 a.0 ∙ origin_then q.site q.origin rest2 d.0 ∙ token_then q.site q.origin q.token rest3 e.0 ∙ body_then q.site q.origin q.token q.body (leb-true n 1024 e.1) in
    ap or_unreadable (
    ap (λ t. path_then (front (has Visible) t) (past (has Visible) t)) (append_assoc q.path http rest)
    ∙ (λ i. path_then (front-append (has Visible) q.path (http ++ rest) visible refl i) (past-append (has Visible) q.path (http ++ rest) visible refl i))
    ∙ cond-true (path_ok q.path) (and_then (readable (fields taking unknown rest)) (λ h. body_of q.path h.0 h.1)) None b.0
    ∙ ap (λ o. and_then (readable o) (λ h. body_of q.path h.0 h.1)) read
    ∙ cond-true (eqb n n) (Some q) None (eq-eqb n n refl))
