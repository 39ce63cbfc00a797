-- `ladder_kinds::names_label` meets its contract: its tests are the sort's. Assumes nothing.
use Rattle.ladder_kinds.proofs.Laws.Sorts.{label_tests_lem}
use Rattle.ladder_kinds.proofs.names_label.Goals as goal

pub returns : goal.returns
returns c = label_tests_lem _
