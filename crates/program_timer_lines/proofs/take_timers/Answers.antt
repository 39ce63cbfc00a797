-- `program_timer_lines::take_timers` meets its contract. Assumes nothing.
use Rattle.program_timer_lines.proofs.Records.{holding_first, holding_more, holding_stop}
use Rattle.program_timer_lines.proofs.take_timers.Goals as goal

pub loop-line-init : goal.loop-line-init
loop-line-init c = holding_first _ _ _

pub loop-line-preserved : goal.loop-line-preserved
loop-line-preserved c = holding_more c.loop-line.invariant c.in-Some.ensures _ _ c.hold-count.ensures

pub returns : goal.returns
returns c = holding_stop c.loop-line.invariant c.in_default.ensures
