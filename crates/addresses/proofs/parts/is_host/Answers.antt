use Rattle.std.proofs.Common.{None, sym, ◌∙◌}
use Rattle.addresses.proofs.Hosts.{turn_no, turn_yes, labels-end}
use Rattle.addresses.proofs.parts.is_host.Goals as goal

pub returns-then-not-is_label : goal.returns-then-not-is_label
returns-then-not-is_label c = sym (c.loop-k.invariant ∙ turn_no _ _ _ _ None c.loop-k-test.true c.split.ensures.front c.split.ensures.past c.if-not-is_label.ensures)

pub returns-in_default : goal.returns-in_default
returns-in_default c = c.is_empty.ensures ∙ sym (c.loop-k.invariant ∙ turn_yes _ _ _ _ _ c.loop-k-test.true c.split.ensures.front c.split.ensures.past c.if-not-is_label.ensures c.in_default.ensures)

pub loop-k-preserved : goal.loop-k-preserved
loop-k-preserved c = c.loop-k.invariant ∙ turn_yes _ _ _ _ _ c.loop-k-test.true c.split.ensures.front c.split.ensures.past c.if-not-is_label.ensures c.in-Some.ensures

pub returns : goal.returns
returns c = sym (c.loop-k.invariant ∙ labels-end _ _ c.loop-k-test.false)
