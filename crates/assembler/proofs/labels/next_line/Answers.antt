use Rattle.std.proofs.Common.{drop, sym, arith, length-drop}
use Rattle.std.proofs.lemmas.List.{take_all}
use Rattle.assembler.proofs.Cuts.{cut_lines, none_behind}
use Rattle.assembler.proofs.labels.next_line.Goals as goal

pub returns-in_default-clause-lines : goal.returns-in_default-clause-lines
returns-in_default-clause-lines c =
    cut_lines c.args.s.now _ c.split.result.1.now _ (sym c.if-is_empty.ensures) c.split.ensures.front c.split.ensures.past (none_behind c.split.result.1.now (omega arith))

pub returns-in_default-len1-up-clause-lines : goal.returns-in_default-len1-up-clause-lines
returns-in_default-len1-up-clause-lines c =
    let end = c.split.result.1.now in
    cut_lines c.args.s.now _ end _ (sym c.if-is_empty.ensures) c.split.ensures.front c.split.ensures.past (take_all _ (drop 1 end) (omega (arith, length-drop 1 end)))
