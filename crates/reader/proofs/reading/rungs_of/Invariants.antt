-- `reader::reading::rungs_of` meets its contract: a law for each way through the loop. Assumes nothing.
use Prim.Native.Nat.{◌-◌}
use lib.ListN.{length}
use Rattle.rungs.specs.Buffers.{columns_of, buffers_in, SameLoans}
use Rattle.list_definitions.specs.Names.{names_in}
use Rattle.reader.proofs.Keeping.{Keeping}
use Rattle.reader.proofs.reading.rungs_of.Given as goal

abbrev pub invariant-loop-kept : goal.invariant-loop-kept
invariant-loop-kept l =
    record {
      kept : Keeping (names_in l.table) l.vars l.text (columns_of (buffers_in l.initial.buffers)) (columns_of (buffers_in l.buffers)) l.next l.sizes;
      same : SameLoans l.initial.buffers l.buffers;
    }

abbrev pub decreases-loop-kept : goal.decreases-loop-kept
decreases-loop-kept l = length l.text - l.next
