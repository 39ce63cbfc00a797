-- `text_lines::line` meets its contract. Assumes nothing.
use Rattle.text_fronts.proofs.Parts.{error_is}
use Rattle.text_lines.proofs.OneLine.{no_number, no_colon, rung_bad, whole_line}
use Rattle.text_lines.proofs.line.Goals as goal

pub returns-in_default : goal.returns-in_default
returns-in_default c = no_number _ _ _ _ c.in_default.ensures

pub returns-in_err-from : goal.returns-in_err-from
returns-in_err-from c = rw (error_is _ c.from_residual.ensures) (no_colon _ _ _ _ _ c.in-Some.ensures _ c.in_err-from.ensures)

pub returns-in_err-next : goal.returns-in_err-next
returns-in_err-next c =
    rw (error_is _ c.from_residual-in_err-next.ensures)
    (rung_bad _ _ _ _ _ c.in-Some.ensures _ c.in_ok-from.ensures _ c.in_err-next.ensures)

pub returns : goal.returns
returns c = whole_line _ _ _ _ _ c.in-Some.ensures _ c.in_ok-from.ensures _ c.in_ok-next.ensures
