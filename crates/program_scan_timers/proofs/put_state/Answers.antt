-- `program_scan_timers::put_state` meets its contract: the parts of the text, one after the other. Assumes nothing.
use Rattle.questions.specs.Bytes.{bytes}
use Rattle.program_scan_timers.proofs.Timers.{state_put}
use Rattle.program_scan_timers.proofs.put_state.Goals as goal

pub returns-clause-put : goal.returns-clause-put
unfolding bytes
returns-clause-put c =
    state_put _ c.put_number-start.ensures c.put_text-first.ensures c.put_number-running.ensures c.put_text-second.ensures
    c.put_number.ensures
