-- `list_questions::records_laid` meets its contract. The loop's invariant: what is left is laid from `start` on just when all is laid from 0.
-- A record's offset is below 2^32, and so is `start` once the two are equal, so no sum wraps. Assumes nothing.
use Rattle.std.specs.Iterator.Adapters.{zip_first, zip_second}
use Rattle.std.specs.Slice.Iter.{iter_rest}
use Rattle.list_questions.proofs.Ranges.{Laying}
use Rattle.list_questions.specs.Parts.{laid_pairs}
use Rattle.list_questions.proofs.records_laid.Given as goal

abbrev pub invariant-loop-offset : goal.invariant-loop-offset
invariant-loop-offset l =
    (goal.iterator-loop-offset).can_next l.offset-iterator
    × (goal.iterator-loop-offset).is_finite l.offset-iterator
    × Laying (laid_pairs 0 l.end l.offsets l.lengths) l.end l.start (iter_rest (zip_first l.offset-iterator)) (iter_rest (zip_second l.offset-iterator))
