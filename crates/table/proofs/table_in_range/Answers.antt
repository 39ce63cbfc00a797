-- `table::table_in_range` meets its contract.
use Rattle.std.proofs.Common.{rules}
use Rattle.std.proofs.lemmas.Iterator.{YieldsList-from_slice}
use Rattle.std.proofs.lemmas.Iterator.Search.{all_from_yields_List}
use borrow.Author.Tests.{eq-eqb, ne_eqb}
use Rattle.table.specs.Questions.{table_in_range, is_bit}
use Rattle.table.proofs.table_in_range.Goals as goal

pub returns-then-table-vars : goal.returns-then-table-vars
unfolding table_in_range
returns-then-table-vars c = rw (eq-eqb _ _ c.if-table-vars.true)
    (all_from_yields_List is_bit _ _ _ c.all.ensures.ran (YieldsList-from_slice c.args.table.now (cc)) (λ x b q k. search rules))

pub returns-else-table-vars : goal.returns-else-table-vars
unfolding table_in_range
returns-else-table-vars c = rw (ne_eqb _ _ c.if-table-vars.false)
