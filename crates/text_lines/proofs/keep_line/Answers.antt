-- `text_lines::keep_line` meets its contract. Assumes nothing.
use mathlib.Core.Path.{refl}
use Rattle.text_lines.proofs.Keeping.{line_kept_lem}
use Rattle.text_lines.proofs.keep_line.Goals as goal

pub returns-clause-kept : goal.returns-clause-kept
returns-clause-kept c =
    line_kept_lem _ _ _ _ _ _ c.in_ok-line.ensures refl _ c.requires.1 c.requires.2 _ _ c.keep.ensures.kept _ c.with_rung.ensures
