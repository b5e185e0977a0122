use Rattle.std.proofs.Common.{refl}
use Rattle.machine.proofs.Turns.{tells, resumes, ends}
use Rattle.machine.proofs.laws.laws_hold.Goals as goal

pub returns : goal.returns
returns c = record { tells = tells; resumes = resumes; ends = ends; value = refl }
