-- `program_scan_report::put_entered` meets its contract: the parts of the line, one after the other. Assumes nothing.
use Rattle.questions.specs.Bytes.{bytes}
use Rattle.program_scan_report.proofs.Rungs.{entered_put}
use Rattle.program_scan_report.proofs.put_entered.Goals as goal

pub returns : goal.returns
unfolding bytes
returns c =
    entered_put _ _ c.put_text-name.ensures (rw c.from.ensures at c.put_number-number.ensures) c.put_text-none.ensures c.put_number-entered.ensures
    c.put_text.ensures
