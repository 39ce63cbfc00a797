-- `ladder_names::first_repeated` meets its contract. The outer loop's invariant: the labels before `j` are new; the inner one's: none of those
-- before `i` is the one at `j`. Assumes nothing.
use Rattle.ladder_names.proofs.Asked.{outer_start, outer_end, inner_start, inner_found, inner_more, outer_more}
use Rattle.ladder_names.proofs.first_repeated.Goals as goal

pub rungs-init : goal.rungs-init
rungs-init c = outer_start _

pub loop-i-init : goal.loop-i-init
loop-i-init c = inner_start c.rungs.invariant

pub loop-i-preserved : goal.loop-i-preserved
loop-i-preserved c = inner_more c.rungs.invariant c.rungs-test.true c.loop-i.invariant c.loop-i-test.true c.if-labels-i.false

pub rungs-preserved : goal.rungs-preserved
rungs-preserved c = outer_more c.rungs.invariant c.rungs-test.true c.loop-i.invariant c.loop-i-test.false

pub returns-after-rungs : goal.returns-after-rungs
returns-after-rungs c = outer_end c.rungs.invariant c.rungs-test.false

pub returns-then-labels-i : goal.returns-then-labels-i
returns-then-labels-i c = inner_found c.rungs.invariant c.rungs-test.true c.loop-i.invariant c.loop-i-test.true c.if-labels-i.true
