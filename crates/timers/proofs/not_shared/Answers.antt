-- `timers::not_shared` meets its contract. The loop's invariant: of the records from `later` on none has the variable just when of all later ones none has it.
use Rattle.std.proofs.Common.{refl, eq-eqb, ne_eqb}
use Rattle.timers.proofs.Asking.{testing_later, testing_more, testing_fails, testing_ends}
use Rattle.timers.proofs.not_shared.Goals as goal

pub loop-later-init : goal.loop-later-init
loop-later-init c = testing_later _ _ _

pub returns-then-shared : goal.returns-then-shared
returns-then-shared c = testing_fails _ _ _ _ c.loop-later.invariant c.loop-later-test.true (rw (eq-eqb _ _ c.if-shared.true) refl)

pub loop-later-preserved : goal.loop-later-preserved
loop-later-preserved c = testing_more _ _ _ _ c.loop-later.invariant c.loop-later-test.true (rw (ne_eqb _ _ c.if-shared.false) refl)

pub returns : goal.returns
returns c = testing_ends _ _ _ _ c.loop-later.invariant c.requires.1 c.loop-later-test.false
