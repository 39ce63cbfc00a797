-- `ladder_kept::after_word` meets its contract: where nothing is pending no word may stand. Assumes nothing.
use Rattle.ladder_kept.proofs.Holding.{nothing_pending}
use Rattle.ladder_kept.proofs.after_word.Goals as goal

pub returns-else-rears-gt0 : goal.returns-else-rears-gt0
returns-else-rears-gt0 c = nothing_pending _ _ _ _ c.if-fronts-gt0.false c.if-rears-gt0.false
