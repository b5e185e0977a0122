use Rattle.std.proofs.Common.{◌≡◌, ◌++◌, codes, sym, ap, ◌∙◌}
use Rattle.std.proofs.lemmas.Bool.{cond-true}
use Rattle.octets.specs.Buffers.{written, count}
use Rattle.octets.specs.Answers.{Read}
use Rattle.lines.specs.Lines.{crlf}
use Rattle.lines.proofs.Pieces.{of_written}
use Rattle.answers.specs.Answers.{read_answer}
use Rattle.lines.specs.Views.{line_text}
use Rattle.answers.specs.Views.{content_of}
use Rattle.answers.specs.Written.{answer_text}
use Rattle.answers.proofs.Back.{answer_back}
use Rattle.answers.proofs.write.write_answer.Goals as goal

pub returns : goal.returns
returns c =
    let body = c.args.a.body.now in
    let status = c.of-status.ensures ∙ ap (λ l. codes "HTTP/1.1 " ++ (l ++ (codes " " ++ crlf))) c.three_digits-code.ensures in
    let e : line_text c.of-status.result ++ (line_text c.of_token-token.result ++ (line_text c.allowed_line-allowed.result ++ (line_text c.of_number-length.result ++ body))) ≡ answer_text (content_of c.args.a) = λ i. status i ++ (c.of_token-token.ensures i ++ (c.allowed_line-allowed.ensures i ++ (c.of_number-length.ensures i ++ body))) in
    let text = answer_text (content_of c.args.a) in
    let out = c.args.out.now in
    let answer : c.put_message.result ≡ count text out = c.put_message.ensures.answer ∙ ap (λ t. count t out) e in
    let after : c.put_message.new.out ≡ written text out = c.put_message.ensures.after ∙ ap (λ t. written t out) e in
    let can = sym c.if-not-can_write.ensures in
    record {
      answer = answer ∙ sym (cond-true _ _ _ can);
      after = after ∙ sym (cond-true _ _ _ can);
      back = of_written (λ t. read_answer c.args.kind t ≡ Read (content_of c.args.a)) text out _ _ answer after (answer_back c.args.kind (content_of c.args.a) can);
    }
