-- What a program has of settings.
use Rattle.std.specs.Prelude.{◌≡◌, Ok, Err, Result}
use Rattle.settings.specs.Settings.{Config, Outcome, Good, Bad}
use Rattle.settings.specs.Views.{fault_number}
use Rattle.plans.specs.declared.plan.Plan.{Plan}
use Rattle.plans.specs.Reading.{PlanFor}
use Rattle.loading.specs.declared.stop.Stop.{Stop}
use Rattle.loading.specs.declared.stop.Stop.TheVariants.{Usage, File, Settings, Script, NoSite, Other, Output, NoMemory}

-- A plan for the settings, or the number and line of their first fault; or want of memory. It never stops for anything else.
abbrev pub Planned : Outcome Config → Result Plan Stop → Type 0
Planned o (Ok plan) = (c : Config) × (o ≡ Good c) × PlanFor c plan
Planned o (Err (Settings path e)) = o ≡ Bad (fault_number e.fault) e.line
Planned o (Err NoMemory) = Unit {0}
Planned o (Err (Usage text)) = ⊥
Planned o (Err (File path why)) = ⊥
Planned o (Err (Script path why)) = ⊥
Planned o (Err (NoSite name)) = ⊥
Planned o (Err (Other text)) = ⊥
Planned o (Err (Output why)) = ⊥
