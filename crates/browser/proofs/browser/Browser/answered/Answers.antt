use Rattle.std.proofs.Common.{sym}
use Rattle.answers.specs.declared.Kind.TheVariants.{Asked}
use Rattle.answers.specs.Views.{content_of}
use Rattle.answers.proofs.Limited.{within_limits}
use Rattle.browser.proofs.browser.Browser.answered.Goals as goal

pub told-requires : goal.told-requires
told-requires c =
    let limits = within_limits Asked c.args.bytes.now (content_of c.in-Ok.a) (sym c.in-Ok.ensures) in
    record { fits = limits.1; short = limits.0 }
