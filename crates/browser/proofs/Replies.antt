-- A request is written; the fault of a page is numbered. Assumes nothing.
use Rattle.std.proofs.Common.{◌≡◌, cond, List, Some, Ok, Err, Option, Result, sym, refl, ap, ◌∙◌}
use Rattle.octets.specs.Buffers.{written}
use Rattle.requests.specs.Requests.{Asking}
use Rattle.requests.specs.Written.{request_text, can_write}
use Rattle.scripts.specs.declared.Step.{Step}
use Rattle.scripts.specs.declared.Unreadable.{Unreadable}
use Rattle.pages.specs.Sites.{Bytes, Request}
use Rattle.windows.specs.Scripts.{fault_in}
use Rattle.browser.specs.Ends.{request_written}
use Rattle.browser.specs.Halves.{steps_fault, unreadable_number}
use Rattle.browser.specs.Wire.{SiteTable, asking_of}

-- the number of a fault in a page, and 0 for none
pub steps_fault_lem : (r : Result (List Step) Unreadable) → unreadable_number (fault_in r) ≡ steps_fault r
steps_fault_lem (Ok steps) = refl
steps_fault_lem (Err fault) = refl

-- the request that is written is the one that is needed
pub is_written : (table : SiteTable) (o : Option Request) (q : Request) (a : Asking) (room : Bytes) → o ≡ Some q → a ≡ asking_of table q →
    cond (can_write a) (written (request_text a) room) room ≡ request_written table o room
is_written table o q a room some is = ap (λ z. cond (can_write z) (written (request_text z) room) room) is ∙ ap (λ z. request_written table z room) (sym some)
