-- `reader_lines::is_named` meets its contract: a law for each way through the loop. Assumes nothing.
use Rattle.std.proofs.Common.{arith}
use Rattle.reader_lines.proofs.Names.{compare_start, compare_stop, compare_differ, compare_more, compare_end}
use Rattle.reader_lines.proofs.is_named.Goals as goal

pub loop-place-init : goal.loop-place-init
loop-place-init c = compare_start _ _ _

pub returns-then-byte-eq0 : goal.returns-then-byte-eq0
returns-then-byte-eq0 c = compare_stop _ _ _ _ c.loop-place.invariant _ c.at_or-byte.ensures c.if-byte-eq0.true

pub returns-then-at_or-byte : goal.returns-then-at_or-byte
returns-then-at_or-byte c =
    compare_differ _ _ _ _ c.loop-place.invariant _ c.at_or-byte.ensures (omega arith) c.if-byte-eq0.false _ c.at_or.ensures c.if-at_or-byte.true

pub loop-place-preserved : goal.loop-place-preserved
loop-place-preserved c =
    compare_more _ _ _ _ c.loop-place.invariant _ c.at_or-byte.ensures (omega arith) c.if-byte-eq0.false _ c.at_or.ensures c.if-at_or-byte.false

pub returns : goal.returns
returns c = compare_end _ _ _ _ c.loop-place.invariant (omega arith)
