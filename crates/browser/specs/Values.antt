-- What requests and what is let out stand for, as the code has them.
use Rattle.std.specs.Prelude.{ℕ, List, [], ◌∷◌, Some, None, Option}
use Rattle.std.specs.Option.{option_map}
use Rattle.bounded.specs.Texts.{text_of}
use Rattle.bounded.specs.Numbers.{number_of}
use Rattle.pages.specs.Sites.{Bytes, Request}
use Rattle.pages.specs.Outs as outs
use Rattle.browser.specs.declared.values.Need.{Need}
use Rattle.browser.specs.declared.values.What.{What}
use Rattle.browser.specs.declared.values.What.TheVariants.{Asked, Said, Opened, Let}
use Rattle.browser.specs.declared.values.Out.{Out}

-- What is asked of a server, with its token.
abbrev pub need_of : (ℕ → Option Bytes) → Need → Request
need_of tokens n = record { site = number_of n.site; from = option_map number_of n.from; token = tokens (number_of n.site); path = text_of n.path; body = text_of n.body }

-- What is let out.
abbrev pub what_of : What → outs.What
what_of (Asked path body) = outs.Asked (text_of path) (text_of body)
what_of (Said window what) = outs.Said window (text_of what)
what_of (Opened path) = outs.Opened (text_of path)
what_of (Let code body) = outs.Let code (text_of body)

-- By which site, and to which.
abbrev pub out_of : Out → outs.Out
out_of o = record { from = number_of o.from; to = number_of o.to; what = what_of o.what }

-- At most one thing, as a list.
abbrev pub outs_of : Option Out → List outs.Out
outs_of None = []
outs_of (Some o) = out_of o ∷ []
