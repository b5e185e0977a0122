use Rattle.std.proofs.Common.{◌≡◌, ◌+◌, ◌-◌, ◌<◌, ◌≤◌, [], ◌∷◌, ◌++◌, length, take, Some, None, Err, Result, sym, ap, ◌∙◌, arith}
use Rattle.std.proofs.lemmas.Bool.{cond-true, lt-ltb}
use Rattle.std.proofs.lemmas.List.{length-append}
use Rattle.std.proofs.lemmas.Result.{err_from_is_err_and}
use Rattle.std.specs.Option.{ok_or}
use Rattle.scripts.specs.declared.Unreadable.TheVariants.{UnknownStep}
use Rattle.std.specs.Slice.Iter.{chunks_exact_rest}
use Rattle.bounded.specs.Fixed.{items_of}
use Rattle.scripts.specs.Page.{step_in}
use Rattle.scripts.proofs.Reading.{onto_all, onto_more, onto_unknown, front_8, past_8}
use Rattle.scripts.proofs.script.Script.decode.Goals as goal

err_same : {A E : Type 0} (x y : E) → ◌≡◌ {A = Result A E} (Err x) (Err y) → x ≡ y
err_same x y e = cc

pub returns-in_err-step : goal.returns-in_err-step
returns-in_err-step c =
    let rest = chunks_exact_rest c.loop-bytes.bytes-iterator in
    let i = c.loop-bytes.invariant in
    let chunk = c.in-Some.ensures.steps.1 in
    let eight : length c.in-Some.bytes.now ≡ 8 = chunk.1 ∙ i.2 in
    let long : 8 ≤ length rest = omega (arith, eight, ap length chunk.0, length-append c.in-Some.bytes.now (chunks_exact_rest c.next.new.self)) in
    let front = front_8 rest c.in-Some.bytes.now _ chunk.0 eight in
    let unknown : None ≡ step_in (take 8 rest) = sym c.in_err-step.ensures.ok_part ∙ c.step.ensures ∙ ap step_in (sym front) in
    let left = c.args.count - length (items_of c.loop-bytes.script.steps) in
    let refused = onto_unknown (items_of c.loop-bytes.script.steps) left rest (omega (arith, long, i.3, i.4)) unknown in
    let fault = c.in_err-step.ensures.value ∙ ap (λ o. ok_or o UnknownStep) c.in_err-step.ensures.ok_part in
    let p = err_from_is_err_and c.from_residual.result c.from_residual.ensures.1 in
    rw (p.1, p.2) (ap Err (err_same _ _ fault) ∙ sym refused ∙ i.5)

pub loop-bytes-preserved : goal.loop-bytes-preserved
loop-bytes-preserved c =
    let rest = chunks_exact_rest c.loop-bytes.bytes-iterator in
    let left = chunks_exact_rest c.next.new.self in
    let done = items_of c.loop-bytes.script.steps in
    let i = c.loop-bytes.invariant in
    let chunk = c.in-Some.ensures.steps.1 in
    let eight : length c.in-Some.bytes.now ≡ 8 = chunk.1 ∙ i.2 in
    let sum : length rest ≡ 8 + length left = omega (arith, eight, ap length chunk.0, length-append c.in-Some.bytes.now left) in
    let few : length done < 2000 = omega (arith, sum, i.3, i.4) in
    let now : items_of c.push.new.self ≡ done ++ (c.in_ok-step.step ∷ []) = c.push.ensures.after ∙ cond-true _ _ _ (lt-ltb (length done) 2000 few) in
    let more : length (items_of c.push.new.self) ≡ length done + 1 = ap length now ∙ length-append done (c.in_ok-step.step ∷ []) in
    let known : Some c.in_ok-step.step ≡ step_in (take 8 rest) = sym c.in_ok-step.ensures.ok_part ∙ c.step.ensures ∙ ap step_in (sym (front_8 rest c.in-Some.bytes.now left chunk.0 eight)) in (
      omega (arith, c.in-Some.ensures.steps.0, i.2),
      tt,
      c.in-Some.ensures.steps.0 ∙ i.2,
      omega (arith, more, sum, i.3, i.4),
      omega (arith, more, sum, i.3, i.4),
      onto_more done _ _ _ rest left c.in_ok-step.step (omega (arith, more, sum, i.3, i.4)) known now (sym (past_8 rest c.in-Some.bytes.now left chunk.0 eight)) ∙ i.5,
    )

pub returns : goal.returns
returns c =
    let i = c.loop-bytes.invariant in
    let short = c.in-None.ensures.steps.1 in
    sym (onto_all (items_of c.loop-bytes.script.steps) _ (chunks_exact_rest c.loop-bytes.bytes-iterator) (omega (arith, short.0, i.2, i.3, i.4))) ∙ i.5
