-- `reader_lines::opens_label` meets its contract: by its first byte and the digit after it. Assumes nothing.
use mathlib.Core.Path.{◌∙◌}
use Rattle.reader_lines.proofs.Labels.{no_label, label_digit}
use Rattle.reader_lines.proofs.opens_label.Goals as goal

pub returns-in-Some : goal.returns-in-Some
returns-in-Some c = c.is_some.ensures ∙ label_digit _ _ _ c.in-Some.ensures _ c.digit_at.ensures

pub returns-in-None : goal.returns-in-None
returns-in-None c = no_label _ _ c.in-None.ensures
