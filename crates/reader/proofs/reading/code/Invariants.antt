-- `reader::reading::code` meets its contract: a law for each way through the loop. Assumes nothing.
use Prim.Native.Nat.{◌-◌}
use lib.ListN.{length}
use Rattle.list_definitions.specs.Names.{names_in}
use Rattle.reader.proofs.Coding.{Coding}
use Rattle.reader.proofs.reading.code.Given as goal

abbrev pub invariant-loop-next : goal.invariant-loop-next
invariant-loop-next l = Coding (names_in l.table) l.vars l.text l.at l.put l.initial.words l.words l.next l.count

abbrev pub decreases-loop-next : goal.decreases-loop-next
decreases-loop-next l = length l.text - l.next
