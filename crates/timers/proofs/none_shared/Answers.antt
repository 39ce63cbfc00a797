-- `timers::none_shared` meets its contract. The loop's invariant: the variables from `number` on differ just when all do.
use Rattle.std.proofs.Common.{refl}
use Rattle.timers.proofs.Asking.{differing_more, differing_fails, differing_ends}
use Rattle.timers.proofs.none_shared.Goals as goal

pub loop-number-init : goal.loop-number-init
loop-number-init c = record { same = refl }

pub returns-then-not-not_shared : goal.returns-then-not-not_shared
returns-then-not-not_shared c = differing_fails _ _ c.loop-number.invariant c.loop-number-test.true _ c.not_shared.ensures c.if-not-not_shared.true

pub loop-number-preserved : goal.loop-number-preserved
loop-number-preserved c = differing_more _ _ c.loop-number.invariant c.loop-number-test.true _ c.not_shared.ensures c.if-not-not_shared.false

pub returns : goal.returns
returns c = differing_ends _ _ c.loop-number.invariant c.requires c.loop-number-test.false
