-- `text_lines::rung_words` meets its contract. Assumes nothing.
use Rattle.text_fronts.proofs.Parts.{error_is}
use Rattle.text_lines.proofs.OneLine.{front_bad, no_arrow, rear_bad, no_end, whole_rung}
use Rattle.text_lines.proofs.rung_words.Goals as goal

pub returns-in_err-front : goal.returns-in_err-front
returns-in_err-front c = rw (error_is _ c.from_residual.ensures) (front_bad _ _ _ _ _ c.in_err-front.ensures _)

pub returns-in_err-from : goal.returns-in_err-from
returns-in_err-from c = rw (error_is _ c.from_residual-in_err-from.ensures) (no_arrow _ _ _ _ _ c.in_ok-front.ensures _ c.in_err-from.ensures _)

pub returns-in_err-rear : goal.returns-in_err-rear
returns-in_err-rear c =
    rw (error_is _ c.from_residual-in_err-rear.ensures)
    (rear_bad _ _ _ _ _ c.in_ok-front.ensures _ c.in_ok-from.ensures _ _ c.in_err-rear.ensures)

pub returns-in_err-next : goal.returns-in_err-next
returns-in_err-next c =
    rw (error_is _ c.from_residual-in_err-next.ensures)
    (no_end _ _ _ _ _ c.in_ok-front.ensures _ c.in_ok-from.ensures _ _ c.in_ok-rear.ensures _ c.in_err-next.ensures)

pub returns : goal.returns
returns c = whole_rung _ _ _ _ _ c.in_ok-front.ensures _ c.in_ok-from.ensures _ _ c.in_ok-rear.ensures _ c.in_ok-next.ensures
