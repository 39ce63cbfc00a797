-- `timers::pack` meets its contract. The loop's invariant: the numbers of the records from `i` on, over what is written, are the whole.

use Rattle.table.specs.TimerRecords.{columns}
use Rattle.timers.proofs.Packing.{Packing}
use Rattle.timers.proofs.pack.Given as goal

abbrev pub invariant-loop-i : goal.invariant-loop-i
invariant-loop-i l = Packing (columns l.preset l.start l.variable l.running l.done) l.initial.timers l.timers l.i
