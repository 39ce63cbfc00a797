-- `ladder_walk::first_contact` meets its contract. The loop's invariant: roots only were passed. Assumes nothing.
use Rattle.std.proofs.Common.{◌-◌, length}
use Rattle.ladder_walk.proofs.Roots.{Passing}
use Rattle.ladder_walk.proofs.first_contact.Given as goal

abbrev pub invariant-loop-sort : goal.invariant-loop-sort
invariant-loop-sort l = Passing l.words l.from l.at

abbrev pub decreases-loop-sort : goal.decreases-loop-sort
decreases-loop-sort l = length l.words - l.at
