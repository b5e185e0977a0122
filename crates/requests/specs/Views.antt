-- What the code's values stand for. Assumes nothing.
use Rattle.std.specs.Option.{option_map}
use Rattle.addresses.specs.Views.{site_of}
use Rattle.requests.specs.declared.Heads.{Heads}
use Rattle.requests.specs.declared.Request.{Request}
use Rattle.requests.specs.Requests.{Known, Asking}

abbrev pub known_of : Heads → Known
known_of h = record { host = option_map site_of h.host; origin = option_map site_of h.origin; token = option_map (λ x. x.now) h.token; length = h.length }

abbrev pub asking_of : Request → Asking
asking_of q = record { site = site_of q.site; path = q.path.now; origin = option_map site_of q.origin; token = option_map (λ x. x.now) q.token; body = q.body.now }
