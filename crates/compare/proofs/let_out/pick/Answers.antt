use Rattle.std.proofs.Common.{◌≡◌, None, Bor, sym, ap, ◌∙◌, refl}
use Rattle.std.specs.Option.{option_map}
use Rattle.std.proofs.lemmas.Fn.{says_at}
use Rattle.browser.specs.declared.values.Out.{Out}
use Rattle.browser.specs.Values.{outs_of}
use Rattle.compare.proofs.Picked.{keep_none, kept}
use Rattle.compare.proofs.let_out.pick.Goals as goal

pub returns-in_err-found : goal.returns-in_err-found
returns-in_err-found g c = λ f h.
    let none : c.args.out.now ≡ None = cc c.in_err-found.ensures.value in
    ap (λ z. outs_of (option_map (λ (x : Bor Out). x.now) z)) c.from_residual.ensures ∙ keep_none f c.args.out.now none

pub returns : goal.returns
returns g c = λ f h.
    let it = c.in_ok-found.found in
    ap (λ z. outs_of (option_map (λ (x : Bor Out). x.now) z)) c.then_some.ensures
    ∙ kept f c.args.out.now it c.counts.result (sym c.in_ok-found.ensures.value) (h it.now c.counts.result (says_at g.F.Fn c.counts.ensures refl))
