-- `ladder::ladder_answer` meets its contract: question 1, then questions 4 to 8, then 9. Assumes nothing.
use mathlib.Core.Path.{sym, ◌∙◌}
use Rattle.questions.proofs.Laws.Answers.{err_passed, verdict_refused, verdict_accepted}
use Rattle.ladder.proofs.Answers.{refused1, refused_form, refused9, accepted9}
use Rattle.ladder.proofs.ladder_answer.Goals as goal

pub returns-then-not-vars_in_range : goal.returns-then-not-vars_in_range
returns-then-not-vars_in_range c = refused1 _ _ _ _ _ _ (sym c.vars_in_range.ensures ∙ c.if-not-vars_in_range.true)

pub returns-in_err-form_answer : goal.returns-in_err-form_answer
returns-in_err-form_answer c = rw (err_passed c.from_residual.ensures.1) (refused_form _ _ _ _ _ _ (sym c.vars_in_range.ensures ∙ c.if-not-vars_in_range.false) _ (verdict_refused _ c.form_answer.ensures c.in_err-form_answer.was))

pub returns-then-not-scratch_in_range : goal.returns-then-not-scratch_in_range
returns-then-not-scratch_in_range c = refused9 _ _ _ _ _ _ (sym c.vars_in_range.ensures ∙ c.if-not-vars_in_range.false) (verdict_accepted c.form_answer.ensures c.in_ok-form_answer.was) _ c.scratch_in_range.ensures c.if-not-scratch_in_range.true

pub returns : goal.returns
returns c = accepted9 _ _ _ _ _ _ (sym c.vars_in_range.ensures ∙ c.if-not-vars_in_range.false) (verdict_accepted c.form_answer.ensures c.in_ok-form_answer.was) _ c.scratch_in_range.ensures c.if-not-scratch_in_range.false
