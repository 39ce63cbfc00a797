-- `list_printing::put_list` meets its contract. The loop's invariant: the text of the records from `k` on, over what is written, is the whole text,
-- and they are laid from `start` on, where k is how many are printed. Assumes nothing.
use lib.ListN.{length}
use Rattle.list_definitions.specs.Names.{names_in}
use Rattle.list_printing.proofs.Printed.{Listing}
use Rattle.list_printing.proofs.put_list.Given as goal

abbrev pub invariant-loop-label : goal.invariant-loop-label
invariant-loop-label l =
    (goal.iterator-loop-label).can_next l.label-iterator
    × (goal.iterator-loop-label).is_finite l.label-iterator
    × Listing (names_in l.names) l.vars l.list.words.now l.list.labels.now l.list.offsets.now l.list.lengths.now l.initial.out l.out l.end l.start (length l.yielded)
