-- `ladder_walk::rear_at` meets its contract. The loop's invariant: the rear ends as what runs from `at` on. The sort of a word's kind forces the tree's root;
-- fronts are worked and first branches run from later words, by the same function: the measure is what is left of the words.
use Rattle.std.proofs.Common.{◌-◌, length}
use Rattle.table.specs.Parts.{state_in}
use Rattle.ladder_walk.specs.Walking.{SameLent}
use Rattle.ladder_walk.proofs.Walks.{Walked}
use Rattle.ladder_walk.proofs.+rear_at.Given as goal

abbrev pub decreases-rear_at : goal.decreases-rear_at
decreases-rear_at l = length l.words.now - l.from

abbrev pub invariant-loop-sort : goal.invariant-loop-sort
invariant-loop-sort l = record {
  walked : Walked l.words l.from l.given (state_in l.initial.state) l.at l.power (state_in l.state);
  same : SameLent l.initial.state l.state;
}

abbrev pub decreases-loop-sort : goal.decreases-loop-sort
decreases-loop-sort l = length l.words - l.at
