-- `timers::Timer::powered` meets its contract: started and tested, or both flags cleared.
use Rattle.std.proofs.Common.{◌∙◌, ap, refl}
use Rattle.table.specs.Timer.{tested, powered}
use Rattle.timers.proofs.Timer.powered.Goals as goal

pub returns-then-power : goal.returns-then-power
unfolding powered
returns-then-power c = rw (c.if-power.true, powered) (c.tested.ensures ∙ ap (λ t. tested c.args.tick t) c.started.ensures)

pub returns-else-power : goal.returns-else-power
unfolding powered
returns-else-power c = rw (c.if-power.false, powered) refl
