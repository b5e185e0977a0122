use Rattle.std.proofs.Common.{◌≡◌, ℕ, ◌+◌, ◌<◌, List, map, length, get_or, take, ap, ◌∙◌}
use Rattle.addresses.specs.declared.Site.{Site}
use Rattle.addresses.specs.Views.{site_of}
use Rattle.bounded.specs.Fixed.{items_of}
use Rattle.storage.specs.Tables.{added}
use Rattle.pages.specs.Sites.{Bytes}
use Rattle.plans.specs.Fits.{AllSites}
use Rattle.plans.proofs.Gathering.{stands, sites-more}
use Rattle.plans.proofs.gather.table_of.Goals as goal

-- the site at a place is added
more : (zs xs : List Site) (e : zs ≡ xs) (i : ℕ) (d : Site) (w : i < length zs) (before after : List (Bytes × ℕ)) → AllSites (map site_of xs) → before ≡ take i (map site_of xs) → after ≡ added (site_of (get_or zs i d)) before → after ≡ take (i + 1) (map site_of xs)
more zs xs e i d w before after all so is = is ∙ ap (added (site_of (get_or zs i d))) so ∙ sites-more site_of xs i (get_or zs i d) all (stands zs xs e i d w)

pub loop-site-preserved : goal.loop-site-preserved
loop-site-preserved c = λ h.
    more c.as_slice-site-items.result.now (items_of c.args.sites.now) c.as_slice-site-items.ensures.is c.loop-site.site-index _ c.loop-site-test.true _ _ h (c.loop-site.invariant h) c.add.ensures.after
