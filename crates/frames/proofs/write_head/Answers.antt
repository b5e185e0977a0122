use Rattle.std.proofs.Common.{◌≡◌, true, ◌++◌, Some, codes, decimal, sym, ap, ◌∙◌, append_assoc}
use Rattle.std.proofs.lemmas.Bool.{cond-true, and_from, le-leb}
use Rattle.octets.specs.Buffers.{written, count}
use Rattle.addresses.specs.Written.{port_text}
use Rattle.lines.proofs.Pieces.{of_written}
use Rattle.frames.specs.Heads.{kind_text, head_text, can_write, read_head}
use Rattle.frames.specs.Views.{head_of}
use Rattle.frames.proofs.Back.{head_short, head_back, count-within}
use Rattle.frames.proofs.write_head.Goals as goal

pub returns : goal.returns
returns c =
    let head = head_of c.args.head in
    let out = c.args.out.now in
    let host = c.args.head.site.host.now in
    let port = port_text c.args.head.site.port in
    let end = (codes " " ++ decimal c.args.head.len) ++ codes "\n" in
    let e : c.word.result.now ++ (codes "https://" ++ (host ++ (c.as_bytes.result.now ++ (c.as_bytes-2.result.now ++ codes "\n")))) ≡ head_text head =
    (λ i. c.word.ensures i ++ (codes "https://" ++ (host ++ ((c.as_bytes.ensures ∙ c.port_text-port.ensures) i ++ ((c.as_bytes-2.ensures ∙ c.decimal_after-digits.ensures) i ++ codes "\n")))))
    ∙ ap (λ l. kind_text c.args.head.kind ++ (codes "https://" ++ l)) (sym (append_assoc host port end)) in
    let answer : c.put_all.result ≡ count (head_text head) out = c.put_all.ensures.answer ∙ ap (λ t. count t out) e in
    let after : c.put_all.new.out ≡ written (head_text head) out = c.put_all.ensures.after ∙ ap (λ t. written t out) e in
    let can : can_write head ≡ true = and_from _ _ (sym c.if-not-is_site.ensures) (le-leb c.args.head.len 999999999 c.if-head-gt-MOST_BYTES.false) in
    record {
      answer = answer ∙ sym (cond-true _ _ _ can);
      after = after ∙ sym (cond-true _ _ _ can);
      short = count-within (head_text head) out _ answer (head_short head can);
      back = of_written (λ t. read_head t ≡ Some head) (head_text head) out _ _ answer after (head_back head can);
    }
