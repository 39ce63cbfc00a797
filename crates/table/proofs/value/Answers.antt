-- `table::value` meets its contract: the byte's truth, and false past the end, as `get_or` gives 0 there.
use Rattle.std.proofs.Common.{rules}
use Rattle.table.specs.State.{value_at}
use Rattle.table.proofs.value.Goals as goal

pub returns : goal.returns
unfolding value_at
returns c = search rules
