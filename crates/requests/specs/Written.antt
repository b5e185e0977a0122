-- Requests as they are written. Assumes nothing.
use Rattle.std.specs.Prelude.{ℕ, Bool, true, ◌&&◌, List, [], ◌++◌, length, Some, None, codes, Option, nat_le}
use Rattle.addresses.specs.Address.{site_ok, path_ok}
use Rattle.addresses.specs.Written.{port_text, site_text}
use Rattle.lines.specs.Lines.{crlf, field_text, token_fits, token_line, length_line}
use Rattle.requests.specs.Requests.{Asking}

-- the site that is asked, with its port unless it is 443
abbrev pub host_line : List ℕ × ℕ → List ℕ
host_line site = field_text (codes "host") (site.0 ++ port_text site.1) ++ crlf

-- the asking page's site, if a page asks
abbrev pub origin_line : Option (List ℕ × ℕ) → List ℕ
origin_line None = []
origin_line (Some site) = field_text (codes "origin") (site_text site.0 site.1) ++ crlf

abbrev pub request_text : Asking → List ℕ
request_text q =
    (codes "POST " ++ (q.path ++ (codes " HTTP/1.1" ++ crlf)))
    ++ (host_line q.site ++ (origin_line q.origin ++ (token_line (codes "cookie: ") q.token ++ (length_line q.body ++ q.body))))

abbrev pub origin_fits : Option (List ℕ × ℕ) → Bool
origin_fits None = true
origin_fits (Some site) = site_ok site.0 site.1

-- each part within its rules, and up to 1,024 bytes
abbrev pub can_write : Asking → Bool
can_write q = site_ok q.site.0 q.site.1 && (path_ok q.path && (origin_fits q.origin && (token_fits q.token && nat_le (length q.body) 1024)))
