-- `program_scan_report::put_changed` meets its contract: the parts of the line, one after the other. Assumes nothing.
use Rattle.questions.specs.Bytes.{bytes}
use Rattle.program_scan_report.proofs.Printing.{changed_put}
use Rattle.program_scan_report.proofs.put_changed.Goals as goal

pub returns : goal.returns
unfolding bytes
returns c =
    changed_put _ _ _ _ c.put_text-name.ensures c.put_number-number.ensures c.put_text-space.ensures (rw c.from.ensures at c.put_number-first.ensures)
    c.put_text-to_ladder.ensures (rw c.from-2.ensures at c.put_number-after_ladder.ensures) c.put_text-apart.ensures
    (rw c.from-3.ensures at c.put_number-again.ensures) c.put_text-to_list.ensures (rw c.from-4.ensures at c.put_number-after_list.ensures)
    c.put_text.ensures
