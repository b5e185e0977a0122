use Rattle.std.proofs.Common.{◌≡◌, ◌++◌, sym, ap, ◌∙◌}
use Rattle.std.proofs.lemmas.Bool.{cond-true}
use Rattle.octets.specs.Answers.{Read}
use Rattle.octets.specs.Buffers.{written, count}
use Rattle.lines.specs.Views.{line_text}
use Rattle.lines.proofs.Pieces.{of_written}
use Rattle.requests.specs.Requests.{read_request}
use Rattle.requests.specs.Views.{asking_of}
use Rattle.requests.specs.Written.{request_text}
use Rattle.requests.proofs.Back.{request_back}
use Rattle.requests.proofs.write.write_request.Goals as goal

pub returns : goal.returns
returns c =
    let body = c.args.q.body.now in
    let asking = asking_of c.args.q in
    let text = request_text asking in
    let out = c.args.out.now in
    let e : line_text c.of-first.result ++ (line_text c.of_site-host.result ++ (line_text c.origin_line-origin.result ++ (line_text c.of_token-token.result ++ (line_text c.of_number-length.result ++ body)))) ≡ text =
    λ i. c.of-first.ensures i ++ (c.of_site-host.ensures i ++ (c.origin_line-origin.ensures i ++ (c.of_token-token.ensures i ++ (c.of_number-length.ensures i ++ body)))) in
    let answer : c.put_message.result ≡ count text out = c.put_message.ensures.answer ∙ ap (λ t. count t out) e in
    let after : c.put_message.new.out ≡ written text out = c.put_message.ensures.after ∙ ap (λ t. written t out) e in
    let can = sym c.if-not-can_write.ensures in
    record {
      answer = answer ∙ sym (cond-true _ _ _ can);
      after = after ∙ sym (cond-true _ _ _ can);
      back = of_written (λ t. read_request t ≡ Read asking) text out _ _ answer after (request_back asking can);
    }
