-- `program_scan_report::put_counts` meets its contract: the parts of the lines, one after the other. Assumes nothing.
use Rattle.questions.specs.Bytes.{bytes}
use Rattle.list_definitions.specs.ListScan.{counts_in as list_counts_in}
use Rattle.program_scan_report.proofs.Printing.{counts_put}
use Rattle.program_scan_report.proofs.put_counts.Goals as goal

pub returns-clause-put : goal.returns-clause-put
unfolding bytes list_counts_in
returns-clause-put c =
    counts_put _ _ c.put_text-rungs.ensures c.put_number-ladder_rungs.ensures c.put_text-apart.ensures c.put_number-list_rungs.ensures
    c.put_text-none.ensures c.put_number-instructions.ensures c.put_text-moved.ensures c.put_number-ladder_moved.ensures c.put_text-space.ensures
    c.put_number-list_moved.ensures c.put_text.ensures
