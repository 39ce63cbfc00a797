-- `list_printing::put_rung` meets its contract. The loop's invariant: the lines of the words from the loop's index on, over what is written, are all of
-- them. Assumes nothing.
use Rattle.list_definitions.specs.Names.{names_in}
use Rattle.list_printing.proofs.Printed.{Printing}
use Rattle.list_printing.proofs.put_rung.Given as goal

abbrev pub invariant-loop-word : goal.invariant-loop-word
invariant-loop-word l = Printing (names_in l.names) l.vars l.words l.at l.initial.out l.out l.end l.word-index
