-- `reader_lines::instruction` meets its contract: by its name, its operand and the LF. Assumes nothing.
use Rattle.std.proofs.Common.{arith, ap, ◌+◌, ◌*◌}
use Rattle.reader_lines.proofs.Lines.{takes_true, takes_false, op_small, op_none, operand_none, sort_none, sort_differs, no_end, whole_line}
use Rattle.reader_lines.proofs.instruction.Goals as goal

pub returns-in_err-op : goal.returns-in_err-op
returns-in_err-op c = rw c.from_residual.ensures (op_none _ _ _ _ _ c.letters-to.ensures c.in_err-op.ensures)

pub returns-in_err-operand : goal.returns-in_err-operand
returns-in_err-operand c = rw c.from_residual-in_err-operand.ensures (operand_none _ _ _ _ _ c.letters-to.ensures c.in_err-operand.ensures)

pub returns-in_err-sort : goal.returns-in_err-sort
returns-in_err-sort c =
    rw c.from_residual-in_err-sort.ensures
    (sort_none _ _ _ _ _ c.letters-to.ensures _ c.in_ok-op.ensures _ c.in_ok-operand.ensures (rw c.number.ensures at c.in_err-sort.ensures))

pub returns-then-not-takes : goal.returns-then-not-takes
returns-then-not-takes c =
    sort_differs _ _ _ _ _ c.letters-to.ensures _ c.in_ok-op.ensures _ c.in_ok-operand.ensures _ (rw c.number.ensures at c.in_ok-sort.ensures)
    (takes_false _ _ _ c.takes.ensures c.if-not-takes.true)

pub returns-in_err-next : goal.returns-in_err-next
returns-in_err-next c =
    rw c.from_residual-in_err-next.ensures
    (no_end _ _ _ _ _ c.letters-to.ensures _ c.in_ok-op.ensures _ c.in_ok-operand.ensures _ (rw c.number.ensures at c.in_ok-sort.ensures)
    (takes_true _ _ _ c.takes.ensures c.if-not-takes.false) c.in_err-next.ensures)

pub overflow_mul-result : goal.overflow_mul-result
overflow_mul-result c = omega (arith, c.number-2.ensures, op_small c.in_ok-op.op)

pub overflow_add-result : goal.overflow_add-result
overflow_add-result c = omega (arith, c.number-2.ensures, op_small c.in_ok-op.op, c.in_ok-operand.ensures.within.2)

pub returns : goal.returns
returns c =
    whole_line _ _ _ _ _ c.letters-to.ensures _ c.in_ok-op.ensures _ c.in_ok-operand.ensures _ (rw c.number.ensures at c.in_ok-sort.ensures)
    (takes_true _ _ _ c.takes.ensures c.if-not-takes.false) _ _ c.in_ok-next.ensures
    (ap (λ k. k * 65536 + c.in_ok-operand.operand.number) c.number-2.ensures)
