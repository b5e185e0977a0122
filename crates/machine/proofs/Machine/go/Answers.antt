use Rattle.std.proofs.Common.{sym}
use Rattle.machine.specs.declared.Status.TheVariants.{Waiting}
use Rattle.machine.proofs.Sound.{wait_named, wait_within}
use Rattle.machine.proofs.Machine.go.Goals as goal

pub allows-requires : goal.allows-requires
allows-requires c = wait_within _ _ _ _ _ _ _ (rw c.in-Ok-Some.field-0-is at c.in-Ok-Some.ensures)

pub returns-then-allows-clause-acts : goal.returns-then-allows-clause-acts
returns-then-allows-clause-acts c =
    let waited = rw c.in-Ok-Some.field-0-is at c.in-Ok-Some.ensures in
    record {
      named = wait_named _ _ _ _ _ _ _ waited Waiting;
      within = wait_within _ _ _ _ _ _ _ waited;
      permitted = sym c.if-allows.ensures;
    }
