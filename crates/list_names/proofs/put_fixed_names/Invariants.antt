-- `list_names::put_fixed_names` meets its contract. The loop's invariant: the names from `op` on, over what is written, are the whole table. Assumes nothing.
use Rattle.list_names.proofs.Fixed.{Filling}
use Rattle.list_names.proofs.put_fixed_names.Given as goal

abbrev pub invariant-loop-op : goal.invariant-loop-op
invariant-loop-op l = Filling l.initial.table l.table l.end l.op
