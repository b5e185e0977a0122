-- What is sent to servers: the number of a site, if one is asked, and the bytes of the request.
use Rattle.std.specs.Prelude.{ℕ, cond, Some, None, Option}
use Rattle.pages.specs.Sites.{Bytes}
use Rattle.pages.specs.Outs.{Group}

-- The site, if it is outside the group.
abbrev pub outside : Group → Option ℕ → Option ℕ
outside h None = None
outside h (Some s) = cond (h s) None (Some s)

-- To which site, and the bytes. Where none is asked no bytes are sent.
abbrev pub sent : Option ℕ → Bytes → Option (ℕ × Bytes)
sent None bs = None
sent (Some s) bs = Some (s, bs)

-- What is sent to sites outside the group.
abbrev pub sent_to_others : Group → Option ℕ → Bytes → Option (ℕ × Bytes)
sent_to_others h o bs = sent (outside h o) bs
