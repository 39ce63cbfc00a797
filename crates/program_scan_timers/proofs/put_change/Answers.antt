-- `program_scan_timers::put_change` meets its contract. Assumes nothing.
use Rattle.questions.specs.Bytes.{bytes}
use Rattle.printing.proofs.Laws.Puts.{put_then}
use Rattle.program_scan_timers.proofs.put_change.Goals as goal

pub returns-clause-put : goal.returns-clause-put
unfolding bytes
returns-clause-put c = put_then c.put_state-first.ensures.put (put_then c.put_text-to.ensures c.put_state.ensures.put)
