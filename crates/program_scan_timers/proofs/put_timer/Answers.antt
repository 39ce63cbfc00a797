-- `program_scan_timers::put_timer` meets its contract: the parts of the line, one after the other. Assumes nothing.
use Rattle.questions.specs.Bytes.{bytes}
use Rattle.program_scan_timers.proofs.Timers.{line_put}
use Rattle.program_scan_timers.proofs.put_timer.Goals as goal

pub returns-clause-put : goal.returns-clause-put
unfolding bytes
returns-clause-put c =
    line_put _ _ _ _ c.put_text-name.ensures c.put_number-end.ensures c.put_text-space.ensures c.put_change-first.ensures.put
    c.put_text-apart.ensures c.put_change-second.ensures.put c.put_text.ensures
