-- `ladder_names::repeated_label` meets its contract: labels that rise are new, others are searched. Assumes nothing.
use Rattle.ladder_names.proofs.Asked.{risen}
use Rattle.ladder_names.proofs.repeated_label.Goals as goal

pub returns-then-labels_rise : goal.returns-then-labels_rise
returns-then-labels_rise c = risen c.labels_rise.ensures c.if-labels_rise.true
