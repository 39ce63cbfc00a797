-- `reader_lines::is_named` meets its contract: a law for each way through the loop. Assumes nothing.
use Rattle.reader_lines.proofs.Names.{Comparing}
use Rattle.reader_lines.proofs.is_named.Given as goal

abbrev pub invariant-loop-place : goal.invariant-loop-place
invariant-loop-place l = Comparing l.table l.from l.word l.place
