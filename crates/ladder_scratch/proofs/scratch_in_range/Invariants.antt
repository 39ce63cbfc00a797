-- `ladder_scratch::scratch_in_range` meets its contract. The loop's invariant: what is left decides for all. Assumes nothing.
use Rattle.std.proofs.Common.{length}
use Rattle.ladder_scratch.proofs.Asked.{Measuring}
use Rattle.ladder_scratch.proofs.scratch_in_range.Given as goal

abbrev pub invariant-loop-offset : goal.invariant-loop-offset
invariant-loop-offset l = Measuring l.words l.offsets l.lengths (length l.yielded)
