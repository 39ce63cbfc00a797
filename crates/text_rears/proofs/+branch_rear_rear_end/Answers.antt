-- `text_rears::rear`, `branch` and `rear_end` meet their contracts: each loop has read a prefix, whose words stand before the rest's.
-- The measures name the brackets that may still open and the bytes that remain. Assumes nothing.
use mathlib.Core.Path.{◌∙◌}
use native.Mathlib.Omega.{arith}
use Rattle.text_fronts.proofs.Parts.{error_is, closed, not_closed, inner_stuck}
use Rattle.text_rears.proofs.Letters.{kind_few, letter_within}
use Rattle.text_rears.proofs.Ends.{branch_law, rear_law, end_output, end_refused, end_open}
use Rattle.text_rears.proofs.Rears.{prefix_none, branch_more, branch_short, branch_stuck, branch_end, branch_end_stuck, rear_more, rear_last, rear_stuck}
use Rattle.text_rears.proofs.+branch_rear_rear_end.Goals as goal

pub branch-loop-rung-init : goal.branch-loop-rung-init
branch-loop-rung-init t c = prefix_none _ _ _ _ _ _ (branch_law _ _ _)

pub branch-returns-in_err-factor : goal.branch-returns-in_err-factor
branch-returns-in_err-factor t c =
    rw (error_is _ c.from_residual.ensures)
    (branch_stuck _ _ _ _ _ _ _ _ _ _ c.loop-rung.invariant _ c.at_or.ensures _ c.opens.ensures c.loop-rung-test.true _ _ _ _ _ c.in_err-factor.ensures)

pub branch-returns-in_err-next : goal.branch-returns-in_err-next
branch-returns-in_err-next t c =
    rw (error_is _ c.from_residual-in_err-next.ensures)
    (branch_short _ _ _ _ _ _ _ _ _ _ c.loop-rung.invariant _ c.at_or.ensures _ c.opens.ensures c.loop-rung-test.true _ _ _ _ _ _
    c.in_ok-factor.ensures c.in_err-next.ensures)

pub branch-loop-rung-preserved : goal.branch-loop-rung-preserved
branch-loop-rung-preserved t c =
    branch_more _ _ _ _ _ _ _ _ _ _ c.loop-rung.invariant _ c.at_or.ensures _ c.opens.ensures c.loop-rung-test.true _ _ _ _ _
    c.put.ensures c.factor.auto.rung c.in_ok-factor.ensures c.in_ok-next.ensures (omega arith)

pub branch-returns-in_err-end : goal.branch-returns-in_err-end
branch-returns-in_err-end t c =
    rw (error_is _ c.from_residual-in_err-end.ensures)
    (branch_end_stuck _ _ _ _ _ _ _ _ _ _ c.loop-rung.invariant _ c.at_or.ensures _ c.opens.ensures c.loop-rung-test.false _ _ _ _ _ c.in_err-end.ensures)

pub branch-returns : goal.branch-returns
branch-returns t c =
    branch_end _ _ _ _ _ _ _ _ _ _ c.loop-rung.invariant _ c.at_or.ensures _ c.opens.ensures c.loop-rung-test.false _ _ c.in_ok-end.ensures

pub rear-loop-part-init : goal.rear-loop-part-init
rear-loop-part-init t c = prefix_none _ _ _ _ _ _ (rear_law _ _ _)

pub rear-returns-in_err-part : goal.rear-returns-in_err-part
rear-returns-in_err-part t c =
    rw (error_is _ c.from_residual.ensures)
    (rear_stuck _ _ _ _ _ _ _ _ _ c.loop-part.invariant _ _ _ _ _ c.in_err-part.ensures)

pub rear-returns-then-at_or-ne124 : goal.rear-returns-then-at_or-ne124
rear-returns-then-at_or-ne124 t c =
    rear_last _ _ _ _ _ _ _ _ _ c.loop-part.invariant _ _ _ c.in_ok-part.ensures c.at_or.ensures c.if-at_or-ne124.true

pub rear-loop-part-preserved : goal.rear-loop-part-preserved
rear-loop-part-preserved t c =
    rear_more _ _ _ _ _ _ _ _ _ c.loop-part.invariant _ _ _ _ _ c.in_ok-part.ensures c.at_or.ensures c.if-at_or-ne124.false
    (c.insert.auto.words ∙ c.branch-text.auto.rung) c.insert.ensures (omega arith)

pub rear_end-leaf-requires : goal.rear_end-leaf-requires
rear_end-leaf-requires t c = (letter_within _ _ c.in-Some.ensures c.args.text.now _ c.at_or-byte.ensures, rw c.number.ensures (kind_few _))

pub rear_end-returns-in-Some : goal.rear_end-returns-in-Some
rear_end-returns-in-Some t c = end_output _ _ _ c.at_or-byte.ensures _ _ c.in-Some.ensures _ _ _ _ (rw c.number.ensures at c.leaf.ensures)

pub rear_end-returns-then-byte-ne91 : goal.rear_end-returns-then-byte-ne91
rear_end-returns-then-byte-ne91 t c = end_refused _ _ _ c.at_or-byte.ensures _ c.in_default.ensures c.then-byte-ne91.either _ _ _

pub rear_end-returns-in_err-inner : goal.rear_end-returns-in_err-inner
rear_end-returns-in_err-inner t c =
    rw (error_is _ c.from_residual.ensures)
    (end_open _ _ _ c.at_or-byte.ensures _ c.in_default.ensures c.if-byte-ne91.false c.if-depth-eq0.false _ _ _ _
    (inner_stuck _ _ _ _ _ _ (omega arith) _ _ _ _ _ _ _ c.in_err-inner.ensures))

pub rear_end-returns-in_err-next : goal.rear_end-returns-in_err-next
rear_end-returns-in_err-next t c =
    rw (error_is _ c.from_residual-in_err-next.ensures)
    (end_open _ _ _ c.at_or-byte.ensures _ c.in_default.ensures c.if-byte-ne91.false c.if-depth-eq0.false _ _ _ _
    (not_closed _ _ _ _ _ _ (omega arith) _ _ _ _ _ _ _ _ c.in_ok-inner.ensures c.in_err-next.ensures))

pub rear_end-returns : goal.rear_end-returns
rear_end-returns t c =
    end_open _ _ _ c.at_or-byte.ensures _ c.in_default.ensures c.if-byte-ne91.false c.if-depth-eq0.false _ _ _ _
    (closed _ _ _ _ _ _ (omega arith) _ _ _ _ _ c.in_ok-inner.ensures c.in_ok-next.ensures)
