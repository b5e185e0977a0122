use Rattle.std.proofs.Common.{◌≡◌, [], length, vec_items, nat_le, if◌then◌else◌, sym, ap, ◌∙◌, arith}
use Rattle.std.proofs.lemmas.List.{get_or-map}
use Rattle.bounded.specs.Texts.{text_of}
use Rattle.bounded.specs.Numbers.{number_of}
use Rattle.pages.specs.Browser.{at}
use Rattle.storage.specs.Storage.{stores_of}
use Rattle.storage.proofs.Updates.{set_at, at_if}
use Rattle.storage.proofs.stores.Stores.keep.Goals as goal

pub returns-clause-after : goal.returns-clause-after
returns-clause-after c =
    let all = vec_items c.args.self.now.texts in
    let n = number_of c.args.site in
    let old = stores_of c.args.self.now in
    let bytes = c.args.bytes.now in
    let here : text_of c.index_mut.result.now ≡ old n = ap text_of c.index_mut.ensures.value ∙ sym (get_or-map text_of all c.number.result c.index_mut.result.now [] (omega arith)) ∙ ap old c.number.ensures.is in
    set_at text_of [] all _ _ c.assign.new.self c.number.ensures.is (omega arith)
    ∙ ap (λ z. at n z old) (c.assign.ensures.after ∙ ap (λ z. if nat_le (length bytes) 4096 then bytes else z) here)
    ∙ at_if (nat_le (length bytes) 4096) n bytes old
    ∙ ap (λ b. if b then at n bytes old else old) (sym (c.is_some.ensures ∙ c.assign.ensures.is))
