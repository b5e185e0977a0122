use Rattle.std.proofs.Common.{refl}
use Rattle.settings.proofs.Back.{settings_read_back}
use Rattle.settings.proofs.laws.settings_read_back.Goals as goal

pub returns : goal.returns
returns c = (settings_read_back, refl)
