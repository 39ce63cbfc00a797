-- `ladder_names::first_repeated` meets its contract. The outer loop's invariant: the labels before `j` are new; the inner one's: none of those
-- before `i` is the one at `j`. Assumes nothing.
use Rattle.ladder_names.proofs.Asked.{Outer, Inner}
use Rattle.ladder_names.proofs.first_repeated.Given as goal

abbrev pub invariant-loop-i : goal.invariant-loop-i
invariant-loop-i l = Inner l.labels l.j l.found l.i

abbrev pub invariant-rungs : goal.invariant-rungs
invariant-rungs l = Outer l.labels l.j-end l.found l.j
