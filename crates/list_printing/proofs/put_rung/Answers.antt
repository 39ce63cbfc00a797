-- `list_printing::put_rung` meets its contract. The loop's invariant: the lines of the words from the loop's index on, over what is written, are all of
-- them. Assumes nothing.
use Rattle.list_definitions.specs.Names.{most_op}
use Rattle.list_definitions.proofs.Laws.Names.{name_short}
use Rattle.list_printing.proofs.Printed.{printing_more, printing_end}
use Rattle.list_printing.proofs.put_rung.Goals as goal

pub loop-word-preserved : goal.loop-word-preserved
loop-word-preserved c = printing_more c.loop-word.invariant (name_short most_op _) c.loop-word-test.true c.put_instruction-end.ensures

pub returns : goal.returns
returns c = printing_end c.loop-word.invariant c.loop-word-test.false
