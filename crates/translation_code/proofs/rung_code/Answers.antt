-- `translation_code::rung_code` meets its contract: the instructions of the front, and then those of the rear.
use Rattle.translation_code.proofs.Rears.{rung_put}
use Rattle.translation_code.proofs.rung_code.Goals as goal

pub returns : goal.returns
returns c = rung_put _ _ _ _ _ _ _ _ _ _ _ c.front_code-front.ensures c.rear_code.ensures
