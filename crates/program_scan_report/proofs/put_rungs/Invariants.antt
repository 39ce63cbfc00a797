-- The loop passes the rungs one by one, and the lines of those that are left are left.
use lib.ListN.{length}
use Rattle.program_scan_report.proofs.Rungs.{Entering}
use Rattle.program_scan_report.proofs.put_rungs.Given as goal

abbrev pub invariant-loop-label : goal.invariant-loop-label
invariant-loop-label l =
    (goal.iterator-loop-label).can_next l.label-iterator
    × (goal.iterator-loop-label).is_finite l.label-iterator
    × Entering l.from l.labels l.times l.initial.out l.out l.end (length l.yielded)
