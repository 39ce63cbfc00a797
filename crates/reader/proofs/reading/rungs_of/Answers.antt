-- `reader::reading::rungs_of` meets its contract: a law for each way through the loop. Assumes nothing.
use Rattle.std.proofs.Common.{rules}
use Rattle.reader.proofs.Keeping.{keeping_start, rungs_end, rungs_more, rungs_stuck}
use Rattle.reader.proofs.reading.rungs_of.Goals as goal

pub loop-kept-init : goal.loop-kept-init
loop-kept-init c = record { kept = keeping_start _ _ _ _; same = search rules }

pub returns-in_err-kept-clause-kept : goal.returns-in_err-kept-clause-kept
returns-in_err-kept-clause-kept c = rw c.from_residual.ensures (rungs_stuck _ _ _ _ _ _ _ c.loop-kept.invariant.kept _ c.in_err-kept.ensures.kept _)

pub returns-then-kept-text-clause-kept : goal.returns-then-kept-text-clause-kept
returns-then-kept-text-clause-kept c = rungs_end _ _ _ _ _ _ _ c.loop-kept.invariant.kept _ _ c.in_ok-kept.ensures.kept c.if-kept-text.true

pub loop-kept-preserved : goal.loop-kept-preserved
loop-kept-preserved c =
    record { kept = rungs_more _ _ _ _ _ _ _ c.loop-kept.invariant.kept _ _ c.in_ok-kept.ensures.kept c.if-kept-text.false; same = search rules }
