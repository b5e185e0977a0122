-- A request in the room that it was written to.
use Rattle.std.proofs.Common.{◌≡◌, ℕ, ◌≤◌, Bool, true, false, cond, leb, [], ◌++◌, length, take, drop, Some, None, Option, sym, refl, ap, ◌∙◌, subst, arith, length-append}
use Rattle.std.specs.Option.{unwrap_or}
use lib.Seq.{take-append_seam}
use Rattle.octets.proofs.Options.{none-some, some_same}
use Rattle.requests.specs.Written.{request_text, can_write}
use Rattle.pages.specs.Sites.{Bytes, Request}
use Rattle.browser.specs.Ends.{request_written, request_count}
use Rattle.browser.specs.Wire.{SiteTable, asking_of}
use Rattle.runs.specs.Events.{sent}

-- So many bytes at the front of a room.
pub record AtFront (n : ℕ) (room bytes : Bytes) : Type 0 where
  pub within : n ≤ length room
  pub bytes_so : take n room ≡ bytes

front_of : (t room : Bytes) (n : ℕ) → n ≡ length t → AtFront n (t ++ drop (length t) room) t
front_of t room n e =
    record { within = omega (arith, length-append t (drop (length t) room)); bytes_so = ap (λ z. take z (t ++ drop (length t) room)) e ∙ take-append_seam t (drop (length t) room) }

nothing : (b : Bool) → ◌≡◌ {A = Bytes} [] (cond b [] [])
nothing true = refl
nothing false = refl

module _ (table : SiteTable) (q : Request) (room : Bytes) where
  abbrev text : Bytes
  text = request_text (asking_of table q)

  -- by whether it can be written, and whether it fits
  some_by : (w f : Bool) (n : ℕ) → leb (length text) (length room) ≡ f → cond w (cond f (Some (length text)) None) None ≡ Some n →
      AtFront n (cond w (cond f (text ++ drop (length text) room) room) room) (cond (leb (length (cond w text [])) (length room)) (cond w text []) [])
  some_by true true n e h =
      subst (λ z. AtFront n (text ++ drop (length text) room) (cond z text [])) (sym e) (front_of text room n (sym (some_same (length text) n h)))
  some_by true false n e h = absurd (none-some n h)
  some_by false true n e h = absurd (none-some n h)
  some_by false false n e h = absurd (none-some n h)

  none_by : (w f : Bool) → leb (length text) (length room) ≡ f → cond w (cond f (Some (length text)) None) None ≡ None → ◌≡◌ {A = Bytes} [] (cond (leb (length (cond w text [])) (length room)) (cond w text []) [])
  none_by true true e h = absurd (none-some (length text) (sym h))
  none_by true false e h = ap (λ z. cond z text []) (sym e)
  none_by false f e h = nothing (leb 0 (length room))

sent-some : (table : SiteTable) (q : Option Request) (room : Bytes) (n : ℕ) → Some n ≡ request_count table q room → AtFront n (request_written table q room) (sent (length room) table q)
sent-some table None room n h = absurd (none-some n (sym h))
sent-some table (Some q) room n h = some_by table q room (can_write (asking_of table q)) (leb (length (request_text (asking_of table q))) (length room)) n refl (sym h)

sent-none : (table : SiteTable) (q : Option Request) (room : Bytes) → None ≡ request_count table q room → [] ≡ sent (length room) table q
sent-none table None room h = refl
sent-none table (Some q) room h = none_by table q room (can_write (asking_of table q)) (leb (length (request_text (asking_of table q))) (length room)) refl (sym h)

-- what was sent is at the front, if anything was
pub sent_front : (table : SiteTable) (q : Option Request) (room after : Bytes) (o : Option ℕ) → o ≡ request_count table q room → after ≡ request_written table q room →
    AtFront (unwrap_or o 0) after (sent (length room) table q)
sent_front table q room after None h e = record { within = omega arith; bytes_so = sent-none table q room h }
sent_front table q room after (Some n) h e = subst (λ z. AtFront n z (sent (length room) table q)) (sym e) (sent-some table q room n h)
