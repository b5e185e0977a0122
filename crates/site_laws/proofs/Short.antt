-- How long requests are.
use Rattle.std.proofs.Common.{◌≡◌, ℕ, ◌+◌, ◌≤◌, Bool, true, false, cond, ◌&&◌, eqb, ltb, leb, List, [], ◌++◌, length, Some, None, codes, decimal, Option, arith, length-append}
use Rattle.std.proofs.lemmas.Fmt.{length-decimal-le}
use Rattle.std.proofs.lemmas.Bool.{and_parts, leb-true}
use Rattle.addresses.specs.Address.{labels, site_ok, path_ok}
use Rattle.addresses.specs.Written.{port_text}
use Rattle.lines.specs.Lines.{token_fits, token_line}
use Rattle.requests.specs.Written.{origin_line, origin_fits}
use Rattle.storage.proofs.Rows.{host_short}
use Rattle.site_laws.specs.Laws.{RequestsFit}

port_short : (p : ℕ) → p ≤ 65535 → length (port_text p) ≤ 6
port_short p h = go (eqb p 443)
  where
    go : (b : Bool) → length (cond b [] (codes ":" ++ decimal p)) ≤ 6
    go true = omega arith
    go false = omega (arith, length-append (codes ":") (decimal p), length-decimal-le 5 p (omega arith) (omega arith) (omega arith))

-- host and port of a site
site_short : (host : List ℕ) (port : ℕ) → site_ok host port ≡ true → (length host ≤ 511) × (length (port_text port) ≤ 6)
site_short host port ok =
    let h = and_parts (labels 8 host) (ltb 0 port && leb port 65535) ok in
    let l : length host + 1 ≤ 512 = host_short 8 host h.0 in
    (omega arith, port_short port (leb-true port 65535 (and_parts (ltb 0 port) (leb port 65535) h.1).1))

path_short : (p : List ℕ) → path_ok p ≡ true → length p ≤ 255
path_short p ok = leb-true (length p) 255 (and_parts (leb (length p) 255) _ (and_parts (ltb 0 (length p)) _ ok).1).0

origin_line_lem : (o : Option (List ℕ × ℕ)) → origin_fits o ≡ true → length (origin_line o) ≤ 535
origin_line_lem None ok = omega arith
origin_line_lem (Some s) ok = let h = site_short s.0 s.1 ok in simp length-append (omega (arith, h.0, h.1))

token_line_lem : (t : Option (List ℕ)) → token_fits t ≡ true → length (token_line (codes "cookie: ") t) ≤ 74
token_line_lem None ok = omega arith
token_line_lem (Some t) ok = let h : length t ≤ 64 = leb-true (length t) 64 (and_parts (leb (length t) 64) _ ok).0 in simp length-append (omega arith)

pub requests_fit : RequestsFit
requests_fit q ok =
    let a = and_parts (site_ok q.site.0 q.site.1) _ ok in
    let b = and_parts (path_ok q.path) _ a.1 in
    let d = and_parts (origin_fits q.origin) _ b.1 in
    let f = and_parts (token_fits q.token) (leb (length q.body) 1024) d.1 in
    let path : length q.path ≤ 255 = path_short q.path b.0 in
    let site = site_short q.site.0 q.site.1 a.0 in
    let origin : length (origin_line q.origin) ≤ 535 = origin_line_lem q.origin d.0 in
    let token : length (token_line (codes "cookie: ") q.token) ≤ 74 = token_line_lem q.token f.0 in
    let body : length q.body ≤ 1024 = leb-true (length q.body) 1024 f.1 in
    let digits : length (decimal (length q.body)) ≤ 4 = length-decimal-le 4 (length q.body) (omega arith) (omega arith) (omega arith) in
    simp length-append (omega (arith, site.0, site.1))
