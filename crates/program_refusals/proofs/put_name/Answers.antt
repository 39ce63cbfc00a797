-- `program_refusals::put_name` meets its contract: the name, and a colon. Assumes nothing.
use Rattle.questions.specs.Bytes.{bytes}
use Rattle.printing.proofs.Laws.Puts.{put_then}
use Rattle.program_refusals.proofs.put_name.Goals as goal

pub returns : goal.returns
unfolding bytes
returns c = put_then c.put_text-end.ensures c.put_text.ensures
