-- `ladder_walk::front_at` meets its contract. The loop's invariant: what stands from `at` on is worked, and roots only are left before it. A second part
-- that is no contact is worked by the same function, from later words: the measure is what is left of the words.
use Prim.Native.Nat.{◌-◌}
use lib.ListN.{length}
use Rattle.ladder_walk.proofs.Roots.{Climbing}
use Rattle.ladder_walk.proofs.+front_at.Given as goal

abbrev pub decreases-front_at : goal.decreases-front_at
decreases-front_at l = length l.words.now - l.from

abbrev pub invariant-loop-at : goal.invariant-loop-at
invariant-loop-at l = Climbing l.words l.from l.state.table.now l.at l.first l.state.table.now

abbrev pub decreases-loop-at : goal.decreases-loop-at
decreases-loop-at l = l.at
