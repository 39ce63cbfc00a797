-- `list_rows::long_refusal` meets its contract: question 1, and then question 10, which says "no". Assumes nothing.
use Rattle.std.proofs.Common.{sym, ◌∙◌}
use Rattle.list_rows.proofs.Answers.{long_variables, long_list}
use Rattle.list_rows.proofs.long_refusal.Goals as goal

pub returns-then-vars_in_range : goal.returns-then-vars_in_range
returns-then-vars_in_range c = long_list _ (sym c.vars_in_range.ensures ∙ c.if-vars_in_range.true)

pub returns-else-vars_in_range : goal.returns-else-vars_in_range
returns-else-vars_in_range c = long_variables _ (sym c.vars_in_range.ensures ∙ c.if-vars_in_range.false)
