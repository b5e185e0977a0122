use Rattle.std.proofs.Common.{◌≡◌, ℕ, List, [], map, vec_items, sym, ap, ◌∙◌}
use mathlib.Core.List.{map-map}
use Rattle.std.specs.Vec.Iter.{into_iter_items}
use Rattle.settings.specs.Settings.{Config, Good, read_settings}
use Rattle.settings.specs.Views.{settings_of}
use Rattle.pages.specs.Runs.{Agenda}
use Rattle.plans.specs.Plans.{open_of, planned}
use Rattle.plans.specs.Agendas.{opening_of, to_open}
use Rattle.plans.proofs.Dues.{fresh}
use Rattle.plans.proofs.Fine.{all-sites, all_openings}
use Rattle.plans.proofs.plan.Plan.read.Goals as goal

pub returns : goal.returns
returns c =
    let s : List ℕ = c.args.text.now in
    let g : Config = settings_of c.in_ok-settings.settings in
    let e : read_settings s ≡ Good g = sym c.in_ok-settings.ensures in
    let o : map opening_of (vec_items c.in_ok-opens.opens) ≡ g.opens = c.in_ok-opens.ensures (all_openings s g e) in
    let os : map to_open (vec_items c.in_ok-opens.opens) ≡ (planned g).opens = sym (map-map open_of opening_of (vec_items c.in_ok-opens.opens)) ∙ ap (map open_of) o in (
      g,
      e,
      record {
        sites = c.table_of.ensures (all-sites s g e);
        agenda = fresh (map to_open (into_iter_items c.into_iter.result)) (planned g).lines ∙ ap {B = Agenda} (λ z. record { opens = z; round = []; lines = (planned g).lines }) (ap (map to_open) c.into_iter.ensures.rest ∙ os);
      },
    )
