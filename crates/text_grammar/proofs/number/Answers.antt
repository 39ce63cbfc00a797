-- `number` meets its contract. Assumes nothing.
use native.Mathlib.Omega.{arith}
use Rattle.text_grammar.proofs.Numbers.{number_none, number_zero, number_start, number_more, number_ends, number_over, number_full}
use Rattle.text_grammar.proofs.number.Goals as goal

pub returns-in_err-value : goal.returns-in_err-value
returns-in_err-value c = rw c.from_residual.ensures (number_none _ _ c.in_err-value.ensures)

pub returns-then-zero : goal.returns-then-zero
returns-then-zero c = number_zero _ _ _ c.in_ok-value.ensures c.if-zero.true

pub loop-init : goal.loop-init
loop-init c = number_start _ _ _ c.in_ok-value.ensures c.if-zero.false

pub loop-preserved : goal.loop-preserved
loop-preserved c = number_more _ _ _ _ _ c.loop.invariant _ c.in-Some.ensures _ (omega arith) c.if-large.false

pub returns-after-loop : goal.returns-after-loop
returns-after-loop c = number_full _ _ _ _ _ c.loop.invariant (omega arith)

pub returns-in_default : goal.returns-in_default
returns-in_default c = number_ends _ _ _ _ _ c.loop.invariant c.in_default.ensures

pub returns-then-large : goal.returns-then-large
returns-then-large c = number_over _ _ _ _ _ c.loop.invariant _ c.in-Some.ensures c.if-large.true
