use Rattle.std.proofs.Common.{◌≡◌, map, sym, ap, ◌∙◌, subst, rules, tests}
use Rattle.std.proofs.lemmas.Iterator.{IsFirst-from_position, YieldsList-from_slice}
use Rattle.addresses.specs.Views.{site_of}
use Rattle.pages.specs.Browser.{nth}
use Rattle.storage.specs.Rows.{row_of}
use Rattle.storage.specs.Tables.{table_of, NotBelow}
use Rattle.storage.proofs.Rows.{nth_held, not_below, nowhere, of_number, where_none}
use Rattle.storage.proofs.table.Table.number_of.Goals as goal

pub returns-in_err-place-clause-none : goal.returns-in_err-place-clause-none
returns-in_err-place-clause-none c =
    let s = site_of c.args.site in
    let rows = c.as_slice-rows.result.now in
    let first = IsFirst-from_position _ _ _ (λ x. row_of x ≡ s) (λ x. row_of x ≡ s → ⊥) c.in_err-place.ensures.ran (YieldsList-from_slice rows cc) (λ x q k. search (rules, tests)) (λ x q k. search (rules, tests)) in
    where_none (NotBelow 16 s (table_of c.args.self.now)) c.from_residual.result (subst (λ xs. NotBelow 16 s (map row_of xs)) c.as_slice-rows.ensures.is (λ k l. nowhere row_of rows s first k))

pub returns-clause-is : goal.returns-clause-is
returns-clause-is c =
    let s = site_of c.args.site in
    let rows = c.as_slice-rows.result.now in
    let first = IsFirst-from_position _ _ _ (λ x. row_of x ≡ s) (λ x. row_of x ≡ s → ⊥) c.in_ok-place.ensures.ran (YieldsList-from_slice rows cc) (λ x q k. search (rules, tests)) (λ x q k. search (rules, tests)) in
    of_number (λ n. nth n (table_of c.args.self.now) ≡ _) _ c.new.result c.new.ensures (sym (ap (λ xs. nth c.in_ok-place.place (map row_of xs)) c.as_slice-rows.ensures.is) ∙ nth_held row_of rows _ s first.0 first.1)

pub returns-clause-first : goal.returns-clause-first
returns-clause-first c =
    let s = site_of c.args.site in
    let rows = c.as_slice-rows.result.now in
    let first = IsFirst-from_position _ _ _ (λ x. row_of x ≡ s) (λ x. row_of x ≡ s → ⊥) c.in_ok-place.ensures.ran (YieldsList-from_slice rows cc) (λ x q k. search (rules, tests)) (λ x q k. search (rules, tests)) in
    of_number (λ n. NotBelow n s (table_of c.args.self.now)) _ c.new.result c.new.ensures (subst (λ xs. NotBelow c.in_ok-place.place s (map row_of xs)) c.as_slice-rows.ensures.is (not_below row_of rows _ s first.2))
