-- The second half of an event, from the bytes of an answer.
use Rattle.std.specs.Prelude.{ℕ, cond, List, [], length, Some, None, Option}
use Rattle.std.specs.Option.{option_map}
use Rattle.octets.specs.Buffers.{written, count}
use Rattle.requests.specs.Written.{request_text, can_write}
use Rattle.machine.specs.Script.{State}
use Rattle.pages.specs.Sites.{Bytes, Request}
use Rattle.pages.specs.Browser.{Part, replied_to}
use Rattle.pages.specs.Outs.{Out}
use Rattle.storage.specs.Storage.{tokens_of}
use Rattle.windows.specs.Scripts.{by_machine}
use Rattle.browser.specs.declared.pending.Pending.{Pending}
use Rattle.browser.specs.Halves.{server_outs, answer_fault}
use Rattle.browser.specs.Values.{need_of}
use Rattle.browser.specs.Wire.{SiteTable, asking_of, kind_for, reply_of}

-- What is asked of a server, if one is.
abbrev pub request_of : Pending → Option Request
request_of x = option_map (need_of (tokens_of x.browser.tokens)) x.need

-- The browser's part once the answer has come, for window i.
abbrev pub finished : SiteTable → ℕ → Option Request → Bytes → Part State → Part State
finished table i None bs b = b
finished table i (Some q) bs b = replied_to (by_machine (length table)) i q.from q (reply_of table (kind_for q.from) bs) b

-- What the asked server lets out.
abbrev pub server_outs_of : SiteTable → Option Request → Bytes → List Out
server_outs_of table None bs = []
server_outs_of table (Some q) bs = server_outs (Some q) (reply_of table (kind_for q.from) bs)

-- The number of the fault: in the script's run, or else in the answer.
abbrev pub faults_of : ℕ → Option Request → Bytes → ℕ
faults_of fault None bs = fault
faults_of fault (Some q) bs = answer_fault (Some q) bs

-- What a room holds after the request was written to it; one that is too small gets nothing.
abbrev pub request_written : SiteTable → Option Request → Bytes → Bytes
request_written table None room = room
request_written table (Some q) room = cond (can_write (asking_of table q)) (written (request_text (asking_of table q)) room) room

-- How long the request is, if it was written.
abbrev pub request_count : SiteTable → Option Request → Bytes → Option ℕ
request_count table None room = None
request_count table (Some q) room = cond (can_write (asking_of table q)) (count (request_text (asking_of table q)) room) None
