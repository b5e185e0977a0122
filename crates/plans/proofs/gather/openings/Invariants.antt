use Rattle.std.proofs.Common.{◌≡◌, ◌≤◌, map, take, vec_items, vec_len, vec_capacity}
use Rattle.settings.specs.Views.{opens_in}
use Rattle.plans.specs.Agendas.{opening_of}
use Rattle.plans.specs.Fits.{AllOpenings}
use Rattle.plans.proofs.gather.openings.Given as goal

abbrev pub invariant-loop-open : goal.invariant-loop-open
invariant-loop-open l = (vec_len l.list ≡ l.open-index) × (16 ≤ vec_capacity l.list) × (AllOpenings (opens_in l.opens) → map opening_of (vec_items l.list) ≡ take l.open-index (opens_in l.opens))
