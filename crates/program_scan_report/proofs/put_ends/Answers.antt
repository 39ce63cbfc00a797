-- `program_scan_report::put_ends` meets its contract: the parts of the lines, one after the other. Assumes nothing.
use Rattle.questions.specs.Bytes.{bytes}
use Rattle.translation_definitions.specs.BothScans.{ends_in}
use Rattle.program_scan_report.proofs.Printing.{ends_put}
use Rattle.program_scan_report.proofs.put_ends.Goals as goal

pub returns-clause-put : goal.returns-clause-put
unfolding bytes ends_in
returns-clause-put c =
    ends_put _ c.put_text-head.ensures c.put_end-first.ensures c.put_text-space.ensures c.put_end-second.ensures c.put_text-line.ensures
    (rw (c.counts.ensures, c.counts-2.ensures) at c.put_counts.ensures.put)
