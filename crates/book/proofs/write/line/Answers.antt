use Rattle.std.proofs.Common.{◌≡◌, ◌++◌, codes, decimal, sym, refl, ap, ◌∙◌, append_assoc}
use Rattle.std.specs.Option.{option_map}
use Rattle.bounded.specs.Numbers.{number_of}
use Rattle.browser.specs.Values.{outs_of}
use Rattle.book.specs.Records.{event_of}
use Rattle.book.specs.Lines.{event_text, site_text, outs_text}
use Rattle.book.proofs.Putting.{puts_then, outs-append}
use Rattle.book.proofs.write.line.Goals as goal

pub returns-clause-puts : goal.returns-clause-puts
returns-clause-puts c =
    let held = c.args.noted.now in
    let page = outs_of held.page in
    let server = outs_of held.server in
    let N = codes "\n" in
    let outs : outs_text page ++ (outs_text server ++ N) ≡ outs_text (page ++ server) ++ N = sym (append_assoc (outs_text page) (outs_text server) N) ∙ ap (λ l. l ++ N) (sym (outs-append page server)) in
    let F = codes " " ++ decimal held.fault in
    let S = site_text (option_map number_of held.site) in
    let E = event_text (event_of held.event) in
    puts_then _ _ _ (decimal c.args.n) _ (E ++ (S ++ (F ++ (outs_text (page ++ server) ++ N)))) _ _ _ refl c.number-at.ensures
    (puts_then _ _ _ E _ (S ++ (F ++ (outs_text (page ++ server) ++ N))) _ _ _ refl c.event-at.ensures.puts
    (puts_then _ _ _ S _ (F ++ (outs_text (page ++ server) ++ N)) _ _ _ refl c.window-at.ensures.puts
    (puts_then _ _ _ F _ (outs_text (page ++ server) ++ N) _ _ _ outs c.number-at-2.ensures
    (puts_then _ _ _ (outs_text page) _ (outs_text server ++ N) _ _ _ refl c.out-at.ensures.puts
    (puts_then _ _ _ (outs_text server) _ N _ _ _ refl c.out-at-2.ensures.puts c.fixed.ensures)))))
