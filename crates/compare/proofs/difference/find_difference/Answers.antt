use Rattle.std.proofs.Common.{Some, None}
use Rattle.bounded.specs.Numbers.{number_of}
use Rattle.browser.specs.Parts.{part_of}
use Rattle.pages.specs.Promise.{only}
use Rattle.compare.specs.Alike.{AlikeParts}
use Rattle.compare.specs.declared.difference.Difference.TheVariants.{Windows, Tokens, Stores}
use Rattle.compare.proofs.Answers.{found_decides, windows_found, site_found}
use Rattle.compare.proofs.difference.find_difference.Goals as goal

pub returns-in-Some : goal.returns-in-Some
returns-in-Some c =
    let found = windows_found _ _ _ _ _ (Some c.in-Some.first) c.windows.ensures.is c.windows-2.ensures.is c.in-Some.ensures in
    record { alike = found_decides _ (part_of c.args.one.now) (part_of c.args.two.now) (Some (Windows c.in-Some.first)) found; first = found }

pub returns-in-Some-first_apart : goal.returns-in-Some-first_apart
returns-in-Some-first_apart c =
    let site = c.in-Some-first_apart.site in
    let windows = windows_found _ _ _ _ _ None c.windows.ensures.is c.windows-2.ensures.is c.in_default.ensures in
    let found = site_found _ _ _ _ _ (Some (number_of site)) c.tokens.ensures c.tokens-2.ensures c.in-Some-first_apart.ensures in
    record { alike = found_decides _ (part_of c.args.one.now) (part_of c.args.two.now) (Some (Tokens site)) (windows, found); first = (windows, found) }

pub returns-in-Some-first_apart-2 : goal.returns-in-Some-first_apart-2
returns-in-Some-first_apart-2 c =
    let site = c.in-Some-first_apart-2.site in
    let windows = windows_found _ _ _ _ _ None c.windows.ensures.is c.windows-2.ensures.is c.in_default.ensures in
    let tokens = site_found _ _ _ _ _ None c.tokens.ensures c.tokens-2.ensures c.in_default-first_apart.ensures in
    let found = site_found _ _ _ _ _ (Some (number_of site)) c.stores.ensures c.stores-2.ensures c.in-Some-first_apart-2.ensures in
    record { alike = found_decides _ (part_of c.args.one.now) (part_of c.args.two.now) (Some (Stores site)) (windows, tokens, found); first = (windows, tokens, found) }

pub returns : goal.returns
returns c =
    let windows = windows_found _ _ _ _ _ None c.windows.ensures.is c.windows-2.ensures.is c.in_default.ensures in
    let tokens = site_found _ _ _ _ _ None c.tokens.ensures c.tokens-2.ensures c.in_default-first_apart.ensures in
    let kept = site_found _ _ _ _ _ None c.stores.ensures c.stores-2.ensures c.in_default-first_apart-2.ensures in
    let found : AlikeParts (only (number_of c.args.but)) (part_of c.args.one.now) (part_of c.args.two.now) = record { windows = windows; tokens = tokens; kept = kept } in
    record { alike = found_decides _ (part_of c.args.one.now) (part_of c.args.two.now) None found; first = found }
