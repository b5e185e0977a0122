use Rattle.std.proofs.Common.{◌≡◌, ◌<◌, ◌≤◌, map, length, Some, sym, ap, ◌∙◌, arith}
use Rattle.addresses.specs.Views.{site_of}
use Rattle.pages.specs.Browser.{nth}
use Rattle.storage.specs.Rows.{row_of}
use Rattle.storage.specs.Tables.{table_of}
use Rattle.storage.proofs.Rows.{nth_here, nth_past, all-nth}
use Rattle.storage.proofs.table.Table.site.Goals as goal

pub returns-in_err-row-clause-is : goal.returns-in_err-row-clause-is
returns-in_err-row-clause-is c =
    let rows = c.as_slice.result.now in
    let past : length rows ≤ c.number.result = omega (arith, c.in_err-row.ensures.lookup) in
    let none = nth_past row_of rows c.number.result past in
    let whole = ap (λ xs. nth c.number.result (map row_of xs)) c.as_slice.ensures.is in
    cc (c.from_residual.ensures, none, whole)

found : (c : goal.After-site) → Some (site_of c.site.result) ≡ nth c.args.number.number (table_of c.args.self.now)
found c =
    let rows = c.as_slice.result.now in
    let row = c.in_ok-row.row.now in
    let inside : c.number.result < length rows = omega (arith, c.in_ok-row.ensures.lookup) in
    ap (λ s. Some s) c.site.ensures
    ∙ sym (nth_here row_of rows c.number.result row c.in_ok-row.ensures.lookup.1 inside)
    ∙ ap (λ xs. nth c.number.result (map row_of xs)) c.as_slice.ensures.is
    ∙ ap (λ n. nth n (table_of c.args.self.now)) c.number.ensures.is

pub returns-clause-is : goal.returns-clause-is
returns-clause-is c = found c

pub returns-clause-ok : goal.returns-clause-ok
returns-clause-ok c = all-nth (table_of c.args.self.now) _ (_, _) c.args.self.now.sites (sym (found c))
