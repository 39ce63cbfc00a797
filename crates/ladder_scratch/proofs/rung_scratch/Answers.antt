-- `ladder_scratch::rung_scratch` meets its contract: the larger of what the front and the rear take. Assumes nothing.
use Rattle.ladder_scratch.proofs.Measures.{measured_rung}
use Rattle.ladder_scratch.proofs.rung_scratch.Goals as goal

pub returns : goal.returns
returns c = measured_rung _ _ _ _ _ c.front_scratch-front.ensures c.rear_scratch-rear.ensures c.larger.ensures
