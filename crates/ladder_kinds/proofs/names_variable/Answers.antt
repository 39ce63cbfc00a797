-- `ladder_kinds::names_variable` meets its contract: its tests are the sort's. Assumes nothing.
use Rattle.ladder_kinds.proofs.Laws.Sorts.{variable_tests_lem}
use Rattle.ladder_kinds.proofs.names_variable.Goals as goal

pub returns : goal.returns
returns c = variable_tests_lem _
