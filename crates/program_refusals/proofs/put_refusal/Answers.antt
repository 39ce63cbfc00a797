-- `program_refusals::put_refusal` meets its contract: the parts of the line, one after the other. Assumes nothing.
use Rattle.questions.specs.Bytes.{bytes}
use Rattle.program_refusals.proofs.Lines.{refusal_put}
use Rattle.program_refusals.proofs.put_refusal.Goals as goal

pub returns-clause-put : goal.returns-clause-put
unfolding bytes
returns-clause-put c =
    refusal_put _ _ _ c.number.ensures c.place.ensures c.put_text-word.ensures c.put_number-number.ensures c.put_text-at.ensures
    c.put_number-place.ensures c.put_text.ensures
