-- What is sent to others, on the wire, by what is asked of them.
use Rattle.std.proofs.Common.{◌≡◌, ℕ, Bool, true, false, cond, Some, None, Option, refl}
use Rattle.std.specs.Option.{option_map}
use Rattle.pages.specs.Sites.{Bytes, Request}
use Rattle.pages.specs.Outs.{Group}
use Rattle.pages.specs.Promise.{to_others}
use Rattle.browser.specs.Wire.{SiteTable}
use Rattle.runs.specs.Events.{sent}
use Rattle.compare.specs.Sent as wire
use Rattle.compare.specs.Sent.{outside, sent_to_others}

module _ (h : Group) (room : ℕ) (table : SiteTable) where
  -- the site and the bytes of a request
  abbrev pub on_wire : Option Request → Option (ℕ × Bytes)
  on_wire None = None
  on_wire (Some q) = Some (q.site, sent room table (Some q))

  pub wired : (q : Option Request) → sent_to_others h (option_map (λ r. r.site) q) (sent room table q) ≡ on_wire (to_others h q)
  wired None = refl
  wired (Some q) = go (h q.site)
    where
      go : (b : Bool) → wire.sent (cond b None (Some q.site)) (sent room table (Some q)) ≡ on_wire (cond b None (Some q))
      go true = refl
      go false = refl
