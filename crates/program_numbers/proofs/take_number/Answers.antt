-- `program_numbers::take_number` meets its contract: what is left of the line leads where the whole line does. Assumes nothing.
use Rattle.program_numbers.proofs.Lines.{numbering_more, numbering_break, numbering_end}
use Rattle.program_numbers.proofs.take_number.Goals as goal

pub returns-then-input-i-eq10 : goal.returns-then-input-i-eq10
returns-then-input-i-eq10 c = numbering_break c.loop-i.invariant c.loop-i-test.true c.if-input-i-eq10.true

pub loop-i-preserved : goal.loop-i-preserved
loop-i-preserved c = numbering_more c.loop-i.invariant _ c.loop-i-test.true c.if-input-i-eq10.false c.step-line.ensures

pub returns : goal.returns
returns c = numbering_end c.loop-i.invariant c.loop-i-test.false
