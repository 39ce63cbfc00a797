-- `list::row_in_range` meets its contract: slices of unequal lengths are no row, and others are three of them. Assumes nothing.
use Rattle.std.proofs.Common.{◌∙◌}
use borrow.Author.Tests.{ne_eqb}
use Rattle.list.proofs.Answers.{uneven_row, even_row}
use Rattle.list.proofs.row_in_range.Goals as goal

pub returns-then-list-times : goal.returns-then-list-times
returns-then-list-times c = even_row _ _ _ _ _ _ c.if-list-times.true _ c.list_in_range.ensures

pub returns-else-list-times : goal.returns-else-list-times
returns-else-list-times c = ne_eqb _ _ c.if-list-times.false ∙ uneven_row _ _ _ _ _ _ c.if-list-times.false
