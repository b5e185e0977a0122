use Rattle.std.proofs.Common.{◌≡◌, Some, None, ap, ◌∙◌, arith}
use Rattle.std.proofs.lemmas.Grind.{common_steps}
use Rattle.octets.specs.declared.Class.TheVariants.{Text, Token}
use Rattle.octets.specs.Classes.{has}
use Rattle.octets.specs.Fronts.{and_then, after, front}
use Rattle.lines.specs.Lines.{crlf, line_then}
use Rattle.lines.proofs.Back.{token_text}
use Rattle.lines.proofs.Scans.{line_is, end_is, name_front, name_past}
use Rattle.lines.proofs.line.parts.named_line.Goals as goal

pub returns-in_err-rest : goal.returns-in_err-rest
returns-in_err-rest c =
    let s = c.args.s.now in
    let e = end_is (has Token) (has Text) token_text s _ _ _ _ c.split.ensures.front c.split.ensures.past c.split-2.ensures.front c.split-2.ensures.past in
    let none : None ≡ line_then s = ap (λ o. and_then o (λ t. Some (front (has Text) s, t))) (c.in_err-rest.ensures ∙ ap (after crlf) e) in
    grind (arith, common_steps)

pub invariant_of-result : goal.invariant_of-result
invariant_of-result c =
    let s = c.args.s.now in
    record {
      front = name_front (has Token) (has Text) token_text s _ _ _ _ c.split.ensures.front c.split.ensures.past c.split-2.ensures.front c.split-2.ensures.past;
      past = name_past (has Token) (has Text) token_text s _ _ _ _ c.split.ensures.front c.split.ensures.past c.split-2.ensures.front c.split-2.ensures.past;
    }

pub returns : goal.returns
returns c =
    let s = c.args.s.now in
    let l = line_is (has Token) (has Text) token_text s _ _ _ _ c.split.ensures.front c.split.ensures.past c.split-2.ensures.front c.split-2.ensures.past in
    let e = end_is (has Token) (has Text) token_text s _ _ _ _ c.split.ensures.front c.split.ensures.past c.split-2.ensures.front c.split-2.ensures.past in
    (λ i. Some (l i, c.in_ok-rest.rest.now)) ∙ ap (λ o. and_then o (λ t. Some (front (has Text) s, t))) (c.in_ok-rest.ensures ∙ ap (after crlf) e)
