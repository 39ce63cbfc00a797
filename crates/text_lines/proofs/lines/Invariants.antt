-- `text_lines::lines` meets its contract. Assumes nothing.
use Prim.Native.Nat.{◌-◌}
use mathlib.Core.Path.{◌≡◌}
use lib.ListN.{length}
use Rattle.rungs.specs.Buffers.{columns_of, buffers_in, SameLoans}
use Rattle.text_lines.proofs.Keeping.{Keeping}
use Rattle.text_lines.proofs.lines.Given as goal

abbrev pub invariant-loop-kept : goal.invariant-loop-kept
invariant-loop-kept l =
    record {
      kept : Keeping l.text (columns_of (buffers_in l.initial.buffers)) (columns_of (buffers_in l.buffers)) l.next l.sizes;
      times : l.buffers.times.now ≡ l.initial.buffers.times.now;
      same : SameLoans l.initial.buffers l.buffers;
    }

abbrev pub decreases-loop-kept : goal.decreases-loop-kept
decreases-loop-kept l = length l.text - l.next
