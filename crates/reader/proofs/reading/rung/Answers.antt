-- `reader::reading::rung` meets its contract: by its label and its code. Assumes nothing.
use mathlib.Core.Path.{◌∙◌}
use Rattle.std.proofs.Math.Nat.{min-eq_left}
use Rattle.reader.proofs.Keeping.{rung_kept, rung_stuck, rung_no_label}
use Rattle.reader.proofs.reading.rung.Goals as goal

pub returns-in_err-label-clause-kept : goal.returns-in_err-label-clause-kept
returns-in_err-label-clause-kept c = rw c.from_residual.ensures (rung_no_label _ _ _ _ _ c.in_err-label.ensures _ _)

pub returns-in_err-code-clause-kept : goal.returns-in_err-code-clause-kept
returns-in_err-code-clause-kept c = rw c.from_residual-in_err-code.ensures (rung_stuck _ _ _ _ _ _ c.in_ok-label.ensures _ _ c.in_err-code.ensures _ _)

pub returns-clause-kept : goal.returns-clause-kept
returns-clause-kept c =
    rung_kept _ _ _ _ _ _ c.in_ok-label.ensures _ _ _ c.in_ok-code.ensures c.requires.1 c.requires.2 _ _ _ _ _ _ _ _
    (λ few. c.narrow.ensures ∙ min-eq_left few) (λ few. c.narrow-2.ensures ∙ min-eq_left few) c.put.ensures c.put-2.ensures c.put-3.ensures _ c.with_rung.ensures
