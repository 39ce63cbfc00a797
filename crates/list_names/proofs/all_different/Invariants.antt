-- `list_names::all_different` meets its contract. The loop's invariant: the names that are left are different just when all are. Assumes nothing.
use lib.ListN.{length}
use Rattle.list_names.proofs.Tables.{Differing}
use Rattle.list_names.proofs.all_different.Given as goal

abbrev pub invariant-loop-left : goal.invariant-loop-left
invariant-loop-left l = Differing l.table l.left

abbrev pub decreases-loop-left : goal.decreases-loop-left
decreases-loop-left l = length l.left
