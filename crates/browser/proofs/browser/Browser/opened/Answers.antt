use Rattle.std.proofs.Common.{sym}
use Rattle.answers.specs.declared.Kind.TheVariants.{Page}
use Rattle.answers.specs.Views.{content_of}
use Rattle.answers.proofs.Limited.{within_limits}
use Rattle.browser.proofs.browser.Browser.opened.Goals as goal

pub take-requires : goal.take-requires
take-requires c = (within_limits Page c.args.bytes.now (content_of c.in-Ok.a) (sym c.in-Ok.ensures)).1
