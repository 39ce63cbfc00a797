-- `ladder_kept::holds_ladder` meets its contract. The loop's invariant: the records not yielded yet and the words left hold rungs just when all do.
-- Assumes nothing.
use Rattle.std.proofs.Common.{length}
use Rattle.rungs.specs.Records.{fields_of}
use Rattle.ladder_kept.proofs.Holding.{Walking}
use Rattle.ladder_kept.proofs.holds_ladder.Given as goal

abbrev pub invariant-loop-offset : goal.invariant-loop-offset
invariant-loop-offset l = Walking l.words (fields_of l.ladder.labels.now l.ladder.offsets.now l.ladder.lengths.now) l.rest (length l.yielded)
