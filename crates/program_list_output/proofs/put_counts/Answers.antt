-- `program_list_output::put_counts` meets its contract: the parts of the line, one after the other. Assumes nothing.
use Rattle.questions.specs.Bytes.{bytes}
use Rattle.program_list_output.proofs.Counts.{counts_put}
use Rattle.program_list_output.proofs.put_counts.Goals as goal

pub returns : goal.returns
unfolding bytes
returns c =
    counts_put _ c.put_text-first.ensures c.put_number-rungs.ensures c.put_text-second.ensures c.put_number-instructions.ensures
    c.put_text-third.ensures c.put_number-longest.ensures c.put_text.ensures
