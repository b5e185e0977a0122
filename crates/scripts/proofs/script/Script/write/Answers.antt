use Rattle.std.proofs.Common.{◌≡◌, ◌+◌, ◌*◌, ◌≤◌, false, leb, length, Ok, sym, ap, ◌∙◌, arith}
use Rattle.std.proofs.lemmas.Bool.{cond-false}
use Rattle.scripts.specs.Page.{page_of, written, written_size}
use Rattle.scripts.specs.Scripts.{steps_of}
use Rattle.scripts.proofs.Writing.{none-fits, size_fits, file_put, file_written, file_back}
use Rattle.scripts.proofs.script.Script.write.Goals as goal

pub returns-then-page-size : goal.returns-then-page-size
returns-then-page-size c =
    let steps = steps_of c.args.self.now in
    let same = ap length c.steps-steps.ensures.steps in
    let short : leb (length (page_of steps)) (length c.args.page.now) ≡ false = none-fits steps c.args.page.now (omega (arith, same)) in
    record { size = sym (cond-false _ _ _ short); bytes = sym (cond-false _ _ _ short); back = tt }

pub returns : goal.returns
returns c =
    let steps = c.steps-steps.result.now in
    let page = c.args.page.now in
    let same = c.steps-steps.ensures.steps in
    let room : 8 + length steps * 8 ≤ length page = omega arith in
    let put = file_put steps page _ _ _ (c.copy_from_slice.ensures.after ∙ c.first_bytes.ensures) c.encode.ensures.bytes (omega arith) in
    record {
      size = size_fits steps page room ∙ ap (λ xs. written_size (page_of xs) page) same;
      bytes = file_written steps page _ room put ∙ ap (λ xs. written (page_of xs) page) same;
      back = file_back steps page _ c.steps-steps.ensures.few c.encode.ensures.back put ∙ ap Ok same;
    }
