-- `text_lines::keep` meets its contract. Assumes nothing.
use Rattle.std.proofs.lemmas.List.{take_min}
use Rattle.text_lines.proofs.Keeping.{stored}
use Rattle.text_lines.proofs.keep.Goals as goal

pub returns-clause-kept : goal.returns-clause-kept
returns-clause-kept c =
    stored _ _ _ _ _ _ _ _ _ (rw (c.min.ensures, take_min) at c.copy_into.ensures)
    c.put.ensures c.put-2.ensures c.put-3.ensures
