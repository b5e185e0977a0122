use Rattle.std.proofs.Common.{[], ◌∷◌, ◌++◌, map, vec_items, sym, ap, ◌∙◌, arith}
use Rattle.std.proofs.lemmas.List.{take_all, map_push}
use Rattle.addresses.specs.Views.{site_of}
use Rattle.storage.specs.Tables.{table_of}
use Rattle.loading.proofs.Places.{some-before, take_next}
use Rattle.loading.proofs.sites.sites_of.Goals as goal

pub returns-in_default : goal.returns-in_default
returns-in_default c = absurd (some-before (table_of c.args.table.now) c.loop-n.n (omega (arith, c.len-n-end.ensures.is)) c.in_default.ensures)

pub loop-n-preserved : goal.loop-n-preserved
loop-n-preserved c =
    ap (map site_of) c.in_ok-push.ensures.items ∙ map_push site_of (vec_items c.loop-n.sites) c.in-Some.site
    ∙ ap (λ z. z ++ (site_of c.in-Some.site ∷ [])) c.loop-n.invariant
    ∙ sym (take_next (table_of c.args.table.now) c.loop-n.n (site_of c.in-Some.site) (sym c.in-Some.ensures))

pub returns : goal.returns
returns c = c.loop-n.invariant ∙ take_all c.loop-n.n (table_of c.args.table.now) (omega (arith, c.len-n-end.ensures.is))
