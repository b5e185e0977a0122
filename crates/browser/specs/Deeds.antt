-- What a page does, as the code has it.
use Rattle.bounded.specs.Texts.{text_of}
use Rattle.bounded.specs.Numbers.{number_of}
use Rattle.pages.specs.Sites.{Act, Idle, Asks, Says, Keeps, Looks, Opens}
use Rattle.browser.specs.declared.deed.Deed.{Deed}
use Rattle.browser.specs.declared.deed.Deed.TheVariants.{Nothing, Ask, Say, Keep, Look, Open}

-- The act.
abbrev pub deed_of : Deed → Act
deed_of Nothing = Idle
deed_of (Ask to path body) = Asks (number_of to) (text_of path) (text_of body)
deed_of (Say window to what) = Says window (number_of to) (text_of what)
deed_of (Keep what) = Keeps (text_of what)
deed_of Look = Looks
deed_of (Open to path) = Opens (number_of to) (text_of path)
