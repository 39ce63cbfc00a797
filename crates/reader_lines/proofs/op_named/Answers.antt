-- `reader_lines::op_named` meets its contract: the first name that is the word tells the op. Assumes nothing.
use Rattle.std.proofs.Common.{arith}
use Rattle.reader_lines.proofs.Names.{search_start, search_found, search_more, search_end}
use Rattle.reader_lines.proofs.op_named.Goals as goal

pub loop-place-init : goal.loop-place-init
loop-place-init c = search_start _ _

pub returns-then-is_named : goal.returns-then-is_named
returns-then-is_named c = search_found _ _ _ c.loop-place.invariant (omega arith) _ c.is_named.ensures c.if-is_named.true _ c.of.ensures

pub loop-place-preserved : goal.loop-place-preserved
loop-place-preserved c = search_more _ _ _ c.loop-place.invariant (omega arith) _ c.is_named.ensures c.if-is_named.false

pub returns : goal.returns
returns c = search_end _ _ _ c.loop-place.invariant (omega arith)
