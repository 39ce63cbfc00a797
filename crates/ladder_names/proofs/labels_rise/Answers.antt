-- `ladder_names::labels_rise` meets its contract. The loop's invariant: the labels before `i` are new, and none of them is above the last.
-- Assumes nothing.
use Rattle.std.proofs.Common.{arith}
use Rattle.ladder_names.proofs.Asked.{rising_start, rising_more, rising_end, rising_not}
use Rattle.ladder_names.proofs.labels_rise.Goals as goal

pub loop-i-init : goal.loop-i-init
loop-i-init c = rising_start _

pub overflow_sub-i : goal.overflow_sub-i
overflow_sub-i c = omega (arith, c.loop-i.invariant.begun)

pub returns-then-labels-i : goal.returns-then-labels-i
returns-then-labels-i c = rising_not _

pub loop-i-preserved : goal.loop-i-preserved
loop-i-preserved c = rising_more c.loop-i.invariant c.loop-i-test.true c.if-labels-i.false

pub returns : goal.returns
returns c = rising_end c.loop-i.invariant c.loop-i-test.false
