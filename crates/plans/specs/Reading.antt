-- What is read of settings.
use Rattle.std.specs.Prelude.{◌≡◌, [], Ok, Err, Result}
use Rattle.settings.specs.Settings.{Config, Outcome, Good, Bad}
use Rattle.settings.specs.Views.{fault_number}
use Rattle.storage.specs.Tables.{table_of}
use Rattle.plans.specs.declared.plan.Plan.{Plan}
use Rattle.plans.specs.declared.plan.Unplanned.{Unplanned}
use Rattle.plans.specs.declared.plan.Unplanned.TheVariants.{Refused, NoMemory}
use Rattle.plans.specs.Agendas.{agenda_of}
use Rattle.plans.specs.Plans.{planned}

-- A plan for settings: their sites, and all that they say is still to be done.
pub record PlanFor (c : Config) (plan : Plan) : Type 0 where
  pub sites : table_of plan.table ≡ c.sites
  pub agenda : agenda_of plan.agenda ≡ record { opens = (planned c).opens; round = []; lines = (planned c).lines }

-- What the reader answers: a plan for the settings, or the number and line of the first fault. Want of memory is the allocator's own answer.
abbrev pub PlanRead : Outcome Config → Result Plan Unplanned → Type 0
PlanRead o (Ok plan) = (c : Config) × (o ≡ Good c) × PlanFor c plan
PlanRead o (Err (Refused e)) = o ≡ Bad (fault_number e.fault) e.line
PlanRead o (Err (NoMemory e)) = Unit {0}
