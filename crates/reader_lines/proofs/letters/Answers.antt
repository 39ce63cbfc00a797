-- `reader_lines::letters` meets its contract: a law for each way through the loop. Assumes nothing.
use native.Mathlib.Omega.{arith}
use Rattle.reader_lines.proofs.Capitals.{letters_start, letters_stop, letters_inside, letters_more, letters_end}
use Rattle.reader_lines.proofs.letters.Goals as goal

pub loop-init : goal.loop-init
loop-init c = letters_start _ _

pub returns-then-not-is_capital : goal.returns-then-not-is_capital
returns-then-not-is_capital c = letters_stop _ _ _ _ c.loop.invariant _ c.at_or.ensures _ c.is_capital.ensures c.if-not-is_capital.true (omega arith)

pub overflow_add-next : goal.overflow_add-next
overflow_add-next c = omega (arith, letters_inside _ _ _ _ c.loop.invariant _ c.at_or.ensures _ c.is_capital.ensures c.if-not-is_capital.false)

pub loop-preserved : goal.loop-preserved
loop-preserved c = letters_more _ _ _ _ c.loop.invariant _ c.at_or.ensures _ c.is_capital.ensures c.if-not-is_capital.false _ (omega arith)

pub returns-after-loop : goal.returns-after-loop
returns-after-loop c = letters_end _ _ _ _ c.loop.invariant (omega arith)
