-- `reader::reading::code` meets its contract: a law for each way through the loop. Assumes nothing.
use Rattle.reader.proofs.Coding.{coding_start, code_at_label, code_at_end, code_more, code_stuck}
use Rattle.reader.proofs.reading.code.Goals as goal

pub loop-next-init : goal.loop-next-init
loop-next-init c = coding_start _ _ _ _ _ _ c.requires.1

pub returns-in_err-line : goal.returns-in_err-line
returns-in_err-line c =
    rw c.from_residual.ensures
    (code_stuck _ _ _ _ _ _ _ _ _ c.loop-next.invariant _ c.opens_label.ensures c.loop-next-test.true c.if-next-text.true c.in_err-line.ensures _)

pub loop-next-preserved : goal.loop-next-preserved
loop-next-preserved c =
    code_more _ _ _ _ _ _ _ _ _ c.loop-next.invariant _ c.opens_label.ensures c.loop-next-test.true c.if-next-text.true _ c.in_ok-line.ensures _ c.put.ensures

pub returns-else-next-text : goal.returns-else-next-text
returns-else-next-text c = code_at_end _ _ _ _ _ _ _ _ _ c.loop-next.invariant _ c.opens_label.ensures c.loop-next-test.true c.if-next-text.false

pub returns-after-loop-next : goal.returns-after-loop-next
returns-after-loop-next c = code_at_label _ _ _ _ _ _ _ _ _ c.loop-next.invariant _ c.opens_label.ensures c.loop-next-test.false
