-- `ladder_rows::long_holds` meets its contract. The loop's invariant: the records from `i` on and the words left hold rungs just when all do.
use Rattle.rows.specs.Rows.{records_of}
use Rattle.ladder_kept.proofs.Holding.{Walking}
use Rattle.ladder_rows.proofs.long_holds.Given as goal

abbrev pub invariant-loop-rung : goal.invariant-loop-rung
invariant-loop-rung l = Walking l.words (records_of l.row) l.rest l.rung-index
