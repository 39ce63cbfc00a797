-- `program_refusals::put_placed` meets its contract: its three parts, one after the other. Assumes nothing.
use Rattle.printing.proofs.Laws.Puts.{put_then}
use Rattle.program_refusals.proofs.put_placed.Goals as goal

pub returns : goal.returns
returns c = put_then c.put_text-first.ensures (put_then c.put_number-number.ensures c.put_text.ensures)
