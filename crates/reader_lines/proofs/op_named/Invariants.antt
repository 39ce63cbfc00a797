-- `reader_lines::op_named` meets its contract: the first name that is the word tells the op. Assumes nothing.
use Rattle.reader_lines.proofs.Names.{Searching}
use Rattle.reader_lines.proofs.op_named.Given as goal

abbrev pub invariant-loop-place : goal.invariant-loop-place
invariant-loop-place l = Searching l.table l.word l.place
