use Rattle.std.proofs.Common.{sym, ◌∙◌}
use Rattle.lines.proofs.Named.{named_end, named_turn, named_more}
use Rattle.lines.proofs.is_named.Goals as goal

pub returns-in_default : goal.returns-in_default
returns-in_default c = sym (c.loop-i.invariant ∙ named_turn _ _ _ _ _ c.loop-i-test.true c.in_default.ensures)

pub returns-then-same_name : goal.returns-then-same_name
returns-then-same_name c = sym (c.loop-i.invariant ∙ named_more _ _ _ _ _ _ _ _ c.loop-i-test.true c.in-Some.ensures c.split.ensures.front c.if-same_name.ensures)

pub loop-i-preserved : goal.loop-i-preserved
loop-i-preserved c = c.loop-i.invariant ∙ named_more _ _ _ _ _ _ _ _ c.loop-i-test.true c.in-Some.ensures c.split.ensures.front c.if-same_name.ensures

pub returns : goal.returns
returns c = sym (c.loop-i.invariant ∙ named_end _ _ _ _ c.loop-i-test.false)
