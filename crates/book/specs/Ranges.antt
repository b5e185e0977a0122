-- The ranges of what the book holds.
use Rattle.std.specs.Prelude.{ℕ, ◌^◌, ◌<◌, ◌≤◌, List, length, Some, None, Option}
use Rattle.std.specs.List.{AllByRecursion}
use Rattle.pages.specs.Browser.{Event, Opening, TurnOf}
use Rattle.pages.specs.Outs.{What, Asked, Said, Opened, Let, Out}
use Rattle.words.specs.Hex.{AllBytes}
use Rattle.book.specs.Records.{Entry}

-- At most n bytes.
abbrev pub BytesIn : ℕ → List ℕ → Type 0
BytesIn n bs = (length bs ≤ n) × AllBytes bs

-- What happened.
abbrev pub EventIn : Event → Type 0
EventIn (Opening t h) = (t < 16) × BytesIn 255 h
EventIn (TurnOf i) = i < 2 ^ 32

-- The site of a window, if there is one.
abbrev pub SiteIn : Option ℕ → Type 0
SiteIn None = Unit {0}
SiteIn (Some t) = t < 16

-- What is let out.
abbrev pub WhatIn : What → Type 0
WhatIn (Asked h d) = BytesIn 255 h × BytesIn 1024 d
WhatIn (Said j d) = (j < 2 ^ 32) × BytesIn 1024 d
WhatIn (Opened h) = BytesIn 255 h
WhatIn (Let c d) = (c < 2 ^ 16) × BytesIn 4096 d

-- By which site, to which.
abbrev pub OutIn : Out → Type 0
OutIn o = (o.from < 16) × (o.to < 16) × WhatIn o.what

-- An entry whose parts are in their ranges, with at most two things let out.
pub record InRange (e : Entry) : Type 0 where
  pub event : EventIn e.event
  pub site : SiteIn e.site
  pub fault : e.fault < 2 ^ 8
  pub outs : AllByRecursion OutIn e.outs
  pub few : length e.outs ≤ 2
