use Rattle.std.proofs.Common.{[], ◌++◌, codes, sym, ap, ◌∙◌, append_assoc}
use Rattle.std.specs.Option.{option_map}
use Rattle.addresses.specs.Views.{site_of}
use Rattle.addresses.specs.Written.{port_text}
use Rattle.bounded.specs.Fixed.{items_of}
use Rattle.settings.specs.Written.{open_text}
use Rattle.settings.proofs.Unwriting.{nth-map}
use Rattle.settings.proofs.write.open_line.Goals as goal

pub returns-in-Some : goal.returns-in-Some
returns-in-Some c =
    let s = c.in-Some.site in
    let path = c.args.open.path.now in
    let there = nth-map site_of (items_of c.args.sites.now) c.args.open.site ∙ ap (option_map site_of) (sym c.in-Some.ensures.is) in
    (λ i. codes "open https://" ++ (s.host.now ++ (c.port_text.ensures i ++ path)))
    ∙ ap (λ l. codes "open https://" ++ l) (sym (append_assoc s.host.now (port_text s.port) path))
    ∙ sym (ap (λ x. open_text x path) there)

pub returns-in-None : goal.returns-in-None
returns-in-None c =
    let path = c.args.open.path.now in
    let none = nth-map site_of (items_of c.args.sites.now) c.args.open.site ∙ ap (option_map site_of) (sym c.in-None.ensures.is) in
    ap (λ l. l ++ []) c.empty.ensures ∙ sym (ap (λ x. open_text x path) none)
