-- `program_timer_lines::after_break` meets its contract. Assumes nothing.
use Rattle.program_timer_lines.proofs.Fields.{break_end, break_taken, break_none}
use Rattle.program_timer_lines.proofs.after_break.Goals as goal
use Rattle.program_timer_lines.proofs.after_break.Goals.{else-at-input-via-then-at-input+else-input-at-eq10, else-at-input-via-else-at-input}

pub returns-then-input-at-eq10 : goal.returns-then-input-at-eq10
returns-then-input-at-eq10 c = break_taken _ _ c.if-at-input.true c.if-input-at-eq10.true

pub returns-else-at-input : goal.returns-else-at-input
returns-else-at-input c = elim c.else-at-input.branch [
  | else-at-input-via-then-at-input+else-input-at-eq10 w ↦ break_none _ _ w.if-at-input.true w.if-input-at-eq10.false
  | else-at-input-via-else-at-input w ↦ break_end _ _ w.if-at-input.false
]
