-- `list::list_answer` meets its contract: question 1, then question 10. Assumes nothing.
use mathlib.Core.Path.{sym, ◌∙◌}
use Rattle.list.proofs.Answers.{refused_variables, refused_list, accepted_list}
use Rattle.list.proofs.list_answer.Goals as goal

pub returns-then-not-vars_in_range : goal.returns-then-not-vars_in_range
returns-then-not-vars_in_range c = refused_variables _ _ _ (sym c.vars_in_range.ensures ∙ c.if-not-vars_in_range.true)

pub returns-then-not-row_in_range : goal.returns-then-not-row_in_range
returns-then-not-row_in_range c = refused_list _ _ _ (sym c.vars_in_range.ensures ∙ c.if-not-vars_in_range.false) (sym c.row_in_range.ensures ∙ c.if-not-row_in_range.true)

pub returns : goal.returns
returns c = accepted_list _ _ _ (sym c.vars_in_range.ensures ∙ c.if-not-vars_in_range.false) (sym c.row_in_range.ensures ∙ c.if-not-row_in_range.false)
