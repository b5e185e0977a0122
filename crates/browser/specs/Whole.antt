-- Both halves of an event together, for every answer's bytes.
use Rattle.std.specs.Prelude.{Some, None, Option}
use Rattle.pages.specs.Sites.{Bytes, Request, Reply, Unreadable}
use Rattle.browser.specs.Wire.{SiteTable, kind_for, reply_of}

-- What is read of an answer's bytes, where a server was asked.
abbrev pub reply_in : SiteTable → Option Request → Bytes → Reply
reply_in table None bs = Unreadable
reply_in table (Some q) bs = reply_of table (kind_for q.from) bs
