-- `list_printing::put_operand` meets its contract: the sort of the op says what is written. Assumes nothing.
use Rattle.printing.proofs.Laws.Puts.{put_none, put_as}
use Rattle.list_ops.specs.Sorts.{sort_in}
use Rattle.list_ops.proofs.Laws.Sorts.{sort_told}
use Rattle.list_printing.proofs.Printed.{operand_none, operand_absent, operand_index, operand_timer, operand_variable, operand_scratch}
use Rattle.list_printing.proofs.put_operand.Goals as goal

pub returns-in-Some-Table : goal.returns-in-Some-Table
unfolding sort_in
returns-in-Some-Table c =
    let is = rw c.in-Some-Table.field-0-is at c.in-Some-Table.is in
    put_as (operand_variable _ _ _ (sort_told c.operand_sort.ensures is) c.if-variable.true) c.put_index.ensures

pub returns-in-Some-Table-2 : goal.returns-in-Some-Table-2
unfolding sort_in
returns-in-Some-Table-2 c =
    let is = rw c.in-Some-Table.field-0-is at c.in-Some-Table.is in
    put_as (operand_scratch _ _ _ (sort_told c.operand_sort.ensures is) c.if-variable.false) c.put_index-in-Some-Table-2.ensures

pub returns-in-Some-Instruction : goal.returns-in-Some-Instruction
unfolding sort_in
returns-in-Some-Instruction c =
    let is = rw c.in-Some-Instruction.field-0-is at c.in-Some-Instruction.is in
    put_as (operand_index _ _ _ (sort_told c.operand_sort.ensures is)) c.put_index-in-Some-Instruction.ensures

pub returns-in-Some-Timer : goal.returns-in-Some-Timer
unfolding sort_in
returns-in-Some-Timer c =
    let is = rw c.in-Some-Timer.field-0-is at c.in-Some-Timer.is in
    put_as (operand_timer _ _ _ (sort_told c.operand_sort.ensures is)) c.put_index-in-Some-Timer.ensures

pub returns-in-Some-Nothing : goal.returns-in-Some-Nothing
unfolding sort_in
returns-in-Some-Nothing c =
    let is = rw c.in-Some-Nothing.field-0-is at c.in-Some-Nothing.is in
    put_as (operand_none _ _ _ (sort_told c.operand_sort.ensures is)) (put_none _ _)

pub returns-in-None : goal.returns-in-None
unfolding sort_in
returns-in-None c = put_as (operand_absent _ _ _ (sort_told c.operand_sort.ensures c.in-None.is)) (put_none _ _)
