use Rattle.std.proofs.Common.{◌≡◌, true, map, sym, ap, ◌∙◌}
use Rattle.octets.proofs.Options.{none-some}
use Rattle.addresses.specs.Address.{site_ok}
use Rattle.storage.specs.Rows.{all_sites, row_of}
use Rattle.storage.proofs.Rows.{site-fits, at_most_is, all_appended}
use Rattle.storage.proofs.table.Table.add.Goals as goal

-- a site's host always fits a row
pub returns-in_err-host : goal.returns-in_err-host
returns-in_err-host c =
    let site = c.args.site in
    absurd (none-some site.host.now (c.in_err-host.ensures ∙ site-fits site.host.now site.port (sym c.is_site.ensures ∙ c.if-not-is_site.false)))

pub invariant_of-self : goal.invariant_of-self
invariant_of-self c =
    let site = c.args.site in
    let ok : site_ok site.host.now site.port ≡ true = sym c.is_site.ensures ∙ c.if-not-is_site.false in
    let kept = ap (λ h. site_ok h site.port) (at_most_is 511 _ site.host.now c.in_ok-host.ensures) ∙ ok in
    record { sites = ap (λ rows. all_sites (map row_of rows)) c.push.ensures.after ∙ all_appended _ _ c.args.self.now.sites kept }
