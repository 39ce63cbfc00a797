-- `text_rears::rear`, `branch` and `rear_end` meet their contracts: each loop has read a prefix, whose words stand before the rest's.
-- The measures name the brackets that may still open and the bytes that remain. Assumes nothing.
use lib.ListN.{length}
use Rattle.text_grammar.specs.Reader.{factor_of, branch_by, branch_of, end_of, rear_by, rear_of}
use Rattle.text_rears.proofs.Rears.{Prefixed}
use Prim.Native.Nat.{◌+◌, ◌-◌, ◌*◌}
use Rattle.text_rears.proofs.+branch_rear_rear_end.Given as goal

abbrev pub decreases-branch : goal.decreases-branch
decreases-branch l = 3 * l.depth + 1 + (length l.text.now - l.at)

abbrev pub decreases-rear : goal.decreases-rear
decreases-rear l = 3 * l.depth + 2 + (length l.text.now - l.at)

abbrev pub decreases-rear_end : goal.decreases-rear_end
decreases-rear_end l = 3 * l.depth + (length l.text.now - l.at)

abbrev pub invariant-branch-loop-rung : goal.invariant-branch-loop-rung
invariant-branch-loop-rung l = Prefixed (branch_by (factor_of l.depth l.text) (end_of l.depth l.text) l.text) l.text (branch_of l.depth l.text l.at) l.at l.next l.count l.put l.initial.rung l.rung

abbrev pub decreases-branch-loop-rung : goal.decreases-branch-loop-rung
decreases-branch-loop-rung l = length l.text - l.next

abbrev pub invariant-rear-loop-part : goal.invariant-rear-loop-part
invariant-rear-loop-part l = Prefixed (rear_by (branch_of l.depth l.text) l.text) l.text (rear_of l.depth l.text l.at) l.at l.next l.count l.put l.initial.rung l.rung

abbrev pub decreases-rear-loop-part : goal.decreases-rear-loop-part
decreases-rear-loop-part l = length l.text - l.next
