-- `list::listing` meets its contract: question 14, questions 1 and 10, the bytes counted over a buffer of none, question 13, and then the same function over
-- the buffer. Assumes nothing.
use mathlib.Core.Path.{sym, ◌∙◌}
use Rattle.questions.proofs.Laws.Answers.{err_passed, verdict_refused, verdict_accepted}
use Rattle.list_definitions.proofs.Laws.Refusing.{listing_unnamed, listing_refused_lem}
use Rattle.list.proofs.Answers.{accepted_range, table_long, row_short, row_written}
use Rattle.list.proofs.listing.Goals as goal

pub returns-then-not-is_name_table : goal.returns-then-not-is_name_table
returns-then-not-is_name_table c = listing_unnamed _ _ _ _ _ (sym c.is_name_table.ensures ∙ c.if-not-is_name_table.true)

pub returns-in_err-list_answer : goal.returns-in_err-list_answer
returns-in_err-list_answer c = rw (err_passed c.from_residual.ensures.1) (listing_refused_lem _ _ _ _ _ _ (sym c.is_name_table.ensures ∙ c.if-not-is_name_table.false) (verdict_refused _ c.list_answer.ensures c.in_err-list_answer.was))

pub put_list-needed-requires : goal.put_list-needed-requires
put_list-needed-requires c = (table_long _ (sym c.is_name_table.ensures ∙ c.if-not-is_name_table.false), accepted_range _ _ _ _ _ _ (verdict_accepted c.list_answer.ensures c.in_ok-list_answer.was))

pub returns-then-out-needed : goal.returns-then-out-needed
returns-then-out-needed c = row_short _ _ _ _ _ _ _ _ (sym c.is_name_table.ensures ∙ c.if-not-is_name_table.false) (verdict_accepted c.list_answer.ensures c.in_ok-list_answer.was) _ _ c.put_list-needed.ensures c.if-out-needed.true

pub put_list-requires : goal.put_list-requires
put_list-requires c = (table_long _ (sym c.is_name_table.ensures ∙ c.if-not-is_name_table.false), accepted_range _ _ _ _ _ _ (verdict_accepted c.list_answer.ensures c.in_ok-list_answer.was))

pub returns : goal.returns
returns c = row_written _ _ _ _ _ _ _ _ (sym c.is_name_table.ensures ∙ c.if-not-is_name_table.false) (verdict_accepted c.list_answer.ensures c.in_ok-list_answer.was) _ _ c.put_list-needed.ensures c.if-out-needed.false _ _ c.put_list.ensures
