use Rattle.std.proofs.Common.{◌++◌, codes, decimal, sym, refl, subst}
use Rattle.bounded.specs.Numbers.{number_of}
use Rattle.bounded.specs.Texts.{text_of}
use Rattle.browser.specs.declared.values.What.{What}
use Rattle.browser.specs.Values.{what_of}
use Rattle.book.specs.Lines.{bytes_text, what_text}
use Rattle.book.specs.Putting.{Puts}
use Rattle.book.proofs.Putting.{puts_then, puts_bytes, puts_same}
use Rattle.book.proofs.write.what.Goals as goal

pub returns-in-Asked-clause-puts : goal.returns-in-Asked-clause-puts
returns-in-Asked-clause-puts c =
    let to = number_of c.args.to in
    let path = text_of c.in-Asked.path in
    let body = text_of c.in-Asked.body in
    let a = c.as_slice.result.now in
    let b = c.as_slice-in-Asked.result.now in
    subst (λ (v : What). Puts c.args.at (what_text to (what_of v)) c.args.room.now c.bytes.result c.bytes.new.room) (sym c.in-Asked.is)
    (puts_then _ _ _ (codes " asks " ++ decimal to) _ (bytes_text path ++ bytes_text body) _ _ _ refl c.site-next.ensures
    (puts_bytes _ _ _ (bytes_text path) b body _ _ _ c.as_slice-in-Asked.ensures.is (puts_same _ _ a path _ _ c.as_slice.ensures.is c.bytes-next.ensures.puts) c.bytes.ensures.puts))

pub returns-in-Said-clause-puts : goal.returns-in-Said-clause-puts
returns-in-Said-clause-puts c =
    let to = number_of c.args.to in
    let body = text_of c.in-Said.said in
    let b = c.as_slice-in-Said.result.now in
    subst (λ (v : What). Puts c.args.at (what_text to (what_of v)) c.args.room.now c.bytes-in-Said.result c.bytes-in-Said.new.room) (sym c.in-Said.is)
    (puts_then _ _ _ (codes " says " ++ decimal to) _ ((codes " " ++ decimal c.in-Said.window) ++ bytes_text body) _ _ _ refl c.site-next-in-Said.ensures
    (puts_bytes _ _ _ (codes " " ++ decimal c.in-Said.window) b body _ _ _ c.as_slice-in-Said.ensures.is c.number-next.ensures c.bytes-in-Said.ensures.puts))

pub returns-in-Opened-clause-puts : goal.returns-in-Opened-clause-puts
returns-in-Opened-clause-puts c =
    let to = number_of c.args.to in
    let path = text_of c.in-Opened.path in
    let a = c.as_slice-in-Opened.result.now in
    subst (λ (v : What). Puts c.args.at (what_text to (what_of v)) c.args.room.now c.bytes-in-Opened.result c.bytes-in-Opened.new.room) (sym c.in-Opened.is)
    (puts_bytes _ _ _ (codes " opens " ++ decimal to) a path _ _ _ c.as_slice-in-Opened.ensures.is c.site-next-in-Opened.ensures c.bytes-in-Opened.ensures.puts)

pub returns-in-Let-clause-puts : goal.returns-in-Let-clause-puts
returns-in-Let-clause-puts c =
    let to = number_of c.args.to in
    let body = text_of c.in-Let.body in
    let b = c.as_slice-in-Let.result.now in
    subst (λ (v : What). Puts c.args.at (what_text to (what_of v)) c.args.room.now c.bytes-in-Let.result c.bytes-in-Let.new.room) (sym c.in-Let.is)
    (puts_then _ _ _ (codes " lets " ++ decimal to) _ ((codes " " ++ decimal c.in-Let.code) ++ bytes_text body) _ _ _ refl c.site-next-in-Let.ensures
    (puts_bytes _ _ _ (codes " " ++ decimal c.in-Let.code) b body _ _ _ c.as_slice-in-Let.ensures.is c.number-next-in-Let.ensures c.bytes-in-Let.ensures.puts))
