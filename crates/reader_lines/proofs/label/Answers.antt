-- `reader_lines::label` meets its contract: by its number, the colon and the LF. Assumes nothing.
use Rattle.reader_lines.proofs.Labels.{label_other, label_no_number, label_no_colon, label_no_end, label_whole}
use Rattle.reader_lines.proofs.label.Goals as goal

pub returns-in_err-number_at : goal.returns-in_err-number_at
returns-in_err-number_at c = rw c.from_residual.ensures (label_other _ _ c.in_err-number_at.ensures)

pub returns-in_err-value : goal.returns-in_err-value
returns-in_err-value c = rw c.from_residual-in_err-value.ensures (label_no_number _ _ _ c.in_ok-number_at.ensures c.in_err-value.ensures)

pub returns-in_err-end : goal.returns-in_err-end
returns-in_err-end c = rw c.from_residual-in_err-end.ensures (label_no_colon _ _ _ c.in_ok-number_at.ensures _ c.in_ok-value.ensures c.in_err-end.ensures)

pub returns-in_err-next : goal.returns-in_err-next
returns-in_err-next c =
    rw c.from_residual-in_err-next.ensures
    (label_no_end _ _ _ c.in_ok-number_at.ensures _ c.in_ok-value.ensures _ c.in_ok-end.ensures c.in_err-next.ensures)

pub returns : goal.returns
returns c = label_whole _ _ _ c.in_ok-number_at.ensures _ c.in_ok-value.ensures _ c.in_ok-end.ensures _ c.in_ok-next.ensures
