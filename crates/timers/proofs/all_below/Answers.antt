-- `timers::all_below` meets its contract. The loop's invariant: the records from `number` on pass the test just when all do.
use Rattle.std.proofs.Common.{refl, le-ltb, lt-ltb}
use Rattle.timers.proofs.Asking.{testing_more, testing_fails, testing_ends}
use Rattle.timers.proofs.all_below.Goals as goal

pub loop-number-init : goal.loop-number-init
loop-number-init c = record { same = refl }

pub returns-then-not-below : goal.returns-then-not-below
returns-then-not-below c = testing_fails _ _ _ _ c.loop-number.invariant c.loop-number-test.true (le-ltb _ _ c.if-not-below.true)

pub loop-number-preserved : goal.loop-number-preserved
loop-number-preserved c = testing_more _ _ _ _ c.loop-number.invariant c.loop-number-test.true (lt-ltb _ _ c.if-not-below.false)

pub returns : goal.returns
returns c = testing_ends _ _ _ _ c.loop-number.invariant c.requires c.loop-number-test.false
