-- `table::State::value` meets its contract.
use Rattle.std.proofs.Common.{rules}
use Rattle.table.specs.State.{value}
use Rattle.table.proofs.State.value.Goals as goal

pub returns : goal.returns
unfolding value
returns c = search rules
