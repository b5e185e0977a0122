use Rattle.std.proofs.Common.{◌≡◌, ℕ, ◌<◌, true, [], ◌∷◌, ◌++◌, List, map, length, get_or, take, Some, None, vec_items, Option, ap, sym, ◌∙◌, arith}
use Rattle.std.proofs.lemmas.List.{map_push}
use Rattle.std.proofs.lemmas.Bool.{cond-true}
use Rattle.octets.proofs.Options.{none-some, some_same}
use Rattle.settings.specs.declared.Open.{Open}
use Rattle.bounded.specs.Fixed.{items_of}
use Rattle.settings.specs.Views.{opens_in, open_of}
use Rattle.pages.specs.Sites.{Bytes}
use Rattle.plans.specs.Agendas.{opening_of}
use Rattle.plans.specs.Fits.{each, opening_ok, fitting}
use Rattle.plans.proofs.Gathering.{each_at, take_next, stands}
use Rattle.plans.proofs.gather.openings.Goals as goal

-- one that fits is taken
fits : (zs xs : List Open) (e : zs ≡ xs) (i : ℕ) (d : Open) (w : i < length zs) (r : Option (ℕ × Bytes)) → each opening_ok (map open_of xs) ≡ true → r ≡ fitting (open_of (get_or zs i d)) → r ≡ Some (open_of (get_or zs i d))
fits zs xs e i d w r all is = is ∙ cond-true (opening_ok (open_of (get_or zs i d))) (Some (open_of (get_or zs i d))) None (each_at opening_ok open_of xs i (get_or zs i d) all (stands zs xs e i d w))

pub returns-in_default : goal.returns-in_default
returns-in_default c = λ h.
    absurd (none-some _ (fits c.as_slice-open-items.result.now (items_of c.args.opens.now) c.as_slice-open-items.ensures.is c.loop-open.open-index _ c.loop-open-test.true _ h.1 c.in_default.ensures))

pub loop-open-preserved : goal.loop-open-preserved
loop-open-preserved c =
    let opens = items_of c.args.opens.now in
    let slice = c.as_slice-open-items.result.now in
    let is = c.as_slice-open-items.ensures.is in
    let i = c.loop-open.open-index in (
      omega arith,
      omega arith,
      λ h.
          let f = some_same (opening_of c.in-Some.opening) _ (fits slice opens is i _ c.loop-open-test.true _ h.1 c.in-Some.ensures) in
          ap (map opening_of) c.push_reserved.ensures.items ∙ map_push opening_of (vec_items c.loop-open.list) c.in-Some.opening
          ∙ ap (λ z. z ++ (opening_of c.in-Some.opening ∷ [])) (c.loop-open.invariant.2 h) ∙ ap (λ z. take i (opens_in c.args.opens.now) ++ (z ∷ [])) f
          ∙ sym (take_next open_of opens i _ (stands slice opens is i _ c.loop-open-test.true)),
    )
