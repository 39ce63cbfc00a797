-- `program_timer_lines::take_field` meets its contract. Assumes nothing.
use Rattle.program_timer_lines.proofs.Fields.{fielding_more, fielding_break, fielding_space, fielding_end}
use Rattle.std.proofs.Common.{arith}
use Rattle.program_timer_lines.proofs.take_field.Goals as goal

pub returns-in-10 : goal.returns-in-10
returns-in-10 c = fielding_break c.loop-i.invariant _ c.loop-i-test.true c.in-10.is c.field.ensures

pub returns-in-32 : goal.returns-in-32
returns-in-32 c = fielding_space c.loop-i.invariant _ c.loop-i-test.true (λ e. omega (arith, c.in-32.is, e)) c.in-32.is c.field-in-32.ensures

pub loop-i-preserved : goal.loop-i-preserved
loop-i-preserved c = fielding_more c.loop-i.invariant _ c.loop-i-test.true (λ e. omega arith) (λ e. omega arith) c.next-digits.ensures

pub returns : goal.returns
returns c = fielding_end c.loop-i.invariant _ c.loop-i-test.false (cc)
