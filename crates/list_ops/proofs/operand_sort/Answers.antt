-- `list_ops::operand_sort` meets its contract: each arm's ops take operands of its sort, and no other op takes any. Assumes nothing.
use Rattle.list_definitions.specs.Instruction.{only_not, ops, operand, sort_of, operand_sort}
use Rattle.list_ops.specs.Ops.{op_number}
use Rattle.list_ops.specs.Sorts.{sort_in}
use Rattle.list_ops.proofs.Laws.Sorts.{table_tested, instruction_tested, latch_tested, none_tested}
use Rattle.list_ops.proofs.operand_sort.Goals as goal

pub returns-then-is_within : goal.returns-then-is_within
unfolding sort_in op_number
returns-then-is_within c = table_tested _ (rw c.is_within.ensures at c.if-is_within.true)

pub returns-then-op-number : goal.returns-then-op-number
unfolding sort_in op_number operand_sort ops only_not operand sort_of
returns-then-op-number c = rw (c.if-op-number.true, c.number.ensures)

pub returns-then-is_within-2 : goal.returns-then-is_within-2
unfolding sort_in op_number
returns-then-is_within-2 c = instruction_tested _ (rw c.is_within-else-op-number.ensures at c.if-is_within-2.true)

pub returns-then-is_within-3 : goal.returns-then-is_within-3
unfolding sort_in op_number
returns-then-is_within-3 c = latch_tested _ (rw c.is_within-else-is_within-2.ensures at c.if-is_within-3.true)

pub returns-then-op-number-2 : goal.returns-then-op-number-2
unfolding sort_in op_number operand_sort ops operand sort_of
returns-then-op-number-2 c = rw (c.if-op-number-2.true, c.number-else-is_within-3.ensures)

pub returns-else-op-number-2 : goal.returns-else-op-number-2
unfolding sort_in op_number
returns-else-op-number-2 c = none_tested _ (rw c.is_within.ensures at c.if-is_within.false) (rw c.number.ensures at c.if-op-number.false)
    (rw c.is_within-else-op-number.ensures at c.if-is_within-2.false) (rw c.is_within-else-is_within-2.ensures at c.if-is_within-3.false)
    (rw c.number-else-is_within-3.ensures at c.if-op-number-2.false)
