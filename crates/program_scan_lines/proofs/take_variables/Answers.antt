-- `program_scan_lines::take_variables` meets its contract: what is left of the line leads where the whole line does. Assumes nothing.
use Rattle.program_scan_lines.proofs.Fills.{filling_more, filling_break, filling_end}
use Rattle.program_scan_lines.proofs.take_variables.Goals as goal

pub returns-then-input-i-eq10 : goal.returns-then-input-i-eq10
returns-then-input-i-eq10 c = filling_break c.loop-i.invariant c.loop-i-test.true c.if-input-i-eq10.true

pub loop-i-preserved : goal.loop-i-preserved
loop-i-preserved c = filling_more c.loop-i.invariant _ _ c.loop-i-test.true c.if-input-i-eq10.false c.next_variable-variables.ensures

pub returns : goal.returns
returns c = filling_end c.loop-i.invariant c.loop-i-test.false
