-- `table::write_if` meets its contract: with power what `write` leaves, and else the state as it is.
use Rattle.std.proofs.Common.{refl, ◌∙◌}
use Rattle.table.specs.State.{write_if}
use Rattle.table.proofs.write_if.Goals as goal

pub returns-then-power : goal.returns-then-power
unfolding write_if
returns-then-power c = record { same = λ timers now. c.write.ensures.same timers now ∙ rw c.if-power.true refl }

pub returns-else-power : goal.returns-else-power
unfolding write_if
returns-else-power c = record { same = λ timers now. rw c.if-power.false refl }
