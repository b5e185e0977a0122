-- What the code's values stand for. Assumes nothing.
use Rattle.std.specs.Option.{option_map}
use Rattle.answers.specs.declared.Allowed.{Allowed}
use Rattle.answers.specs.declared.Allowed.TheVariants.{Everybody, Site}
use Rattle.answers.specs.declared.Response.{Response}
use Rattle.answers.specs.declared.Heads.{Heads}
use Rattle.answers.specs.Answers.{Allows, All, Only, Known, Content}

abbrev pub allows_by : Allowed → Allows
allows_by Everybody = All
allows_by (Site s) = Only s.host.now s.port

abbrev pub known_of : Heads → Known
known_of h = record { kind = h.kind; length = h.length; token = option_map (λ x. x.now) h.token; allowed = option_map allows_by h.allowed }

abbrev pub content_of : Response → Content
content_of a = record { code = a.code; token = option_map (λ x. x.now) a.token; allowed = option_map allows_by a.allowed; body = a.body.now }
