-- `ladder_names::labels_rise` meets its contract. The loop's invariant: the labels before `i` are new, and none of them is above the last.
-- Assumes nothing.
use Rattle.ladder_names.proofs.Asked.{Rising}
use Rattle.ladder_names.proofs.labels_rise.Given as goal

abbrev pub invariant-loop-i : goal.invariant-loop-i
invariant-loop-i l = Rising l.labels l.i
