-- `table::turns` meets its contract.
use Rattle.table.proofs.Laws.Moved.{turns_below, turns_beyond}
use Rattle.table.proofs.turns.Goals as goal

pub returns-then-index-vars : goal.returns-then-index-vars
returns-then-index-vars c = let a = c.args in turns_below a.vars a.table.now a.index a.b c.value.result c.if-index-vars.true c.value.ensures

pub returns-else-index-vars : goal.returns-else-index-vars
returns-else-index-vars c = let a = c.args in turns_beyond a.vars a.table.now a.index a.b c.if-index-vars.false
