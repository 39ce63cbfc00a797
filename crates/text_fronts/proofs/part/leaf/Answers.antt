-- `text_fronts::part::leaf` meets its contract: a number, and its word put. Assumes nothing.
use Rattle.text_fronts.proofs.Parts.{leaf_read, leaf_stuck}
use Rattle.text_fronts.proofs.part.leaf.Goals as goal

pub returns-in_default : goal.returns-in_default
returns-in_default c = leaf_stuck _ _ _ _ _ _ c.in_default.ensures

pub returns : goal.returns
returns c = leaf_read _ _ _ _ _ _ _ c.in-Some.ensures c.put.ensures
