-- `program_list_output::run` meets its contract: the first line, the kept text, and what `print` comes to. Assumes nothing.
use Rattle.program_list_output.proofs.Prints.{run_done}
use Rattle.program_list_output.proofs.run.Goals as goal

pub returns : goal.returns
returns c = run_done _ _ c.take_number-first.ensures _ c.variables.ensures _ c.kept_end-to.ensures _ _ _ c.print.ensures
