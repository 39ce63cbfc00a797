-- `both_parts::both_answer` meets its contract: the questions in order. Assumes nothing.
use mathlib.Core.Path.{sym, ◌∙◌}
use Rattle.questions.proofs.Laws.Answers.{err_passed, verdict_refused, verdict_accepted}
use Rattle.both_parts.proofs.Asking.{asked_refused, asked_ladder_timers, asked_list_timers, asked_ladder_copy, asked_list_copy, asked_instructions, asked_accepted}
use Rattle.both_parts.proofs.both_answer.Goals as goal

pub returns-in_err-scan_questions : goal.returns-in_err-scan_questions
returns-in_err-scan_questions c = rw (err_passed c.from_residual.ensures.1) (asked_refused _ _ _ _ _ _ _ _ (verdict_refused _ c.scan_questions.ensures c.in_err-scan_questions.was))

pub returns-then-ladder_copy-timers : goal.returns-then-ladder_copy-timers
returns-then-ladder_copy-timers c = asked_ladder_timers _ _ _ _ _ _ _ (verdict_accepted c.scan_questions.ensures c.in_ok-scan_questions.was) c.if-ladder_copy-timers.true

pub returns-then-list_copy-timers : goal.returns-then-list_copy-timers
returns-then-list_copy-timers c = asked_list_timers _ _ _ _ _ _ _ (verdict_accepted c.scan_questions.ensures c.in_ok-scan_questions.was) c.if-ladder_copy-timers.false c.if-list_copy-timers.true

pub returns-then-ladder_copy-table : goal.returns-then-ladder_copy-table
returns-then-ladder_copy-table c = asked_ladder_copy _ _ _ _ _ _ _ (verdict_accepted c.scan_questions.ensures c.in_ok-scan_questions.was) c.if-ladder_copy-timers.false c.if-list_copy-timers.false c.if-ladder_copy-table.true

pub returns-then-not-whole : goal.returns-then-not-whole
returns-then-not-whole c = asked_list_copy _ _ _ _ _ _ _ (verdict_accepted c.scan_questions.ensures c.in_ok-scan_questions.was) c.if-ladder_copy-timers.false c.if-list_copy-timers.false c.if-ladder_copy-table.false c.if-not-whole.true

pub returns-then-not-watchdog_in_range : goal.returns-then-not-watchdog_in_range
returns-then-not-watchdog_in_range c = asked_instructions _ _ _ _ _ _ _ (verdict_accepted c.scan_questions.ensures c.in_ok-scan_questions.was) c.if-ladder_copy-timers.false c.if-list_copy-timers.false c.if-ladder_copy-table.false c.if-not-whole.false (sym c.watchdog_in_range.ensures ∙ c.if-not-watchdog_in_range.true)

pub returns : goal.returns
returns c = asked_accepted _ _ _ _ _ _ _ (verdict_accepted c.scan_questions.ensures c.in_ok-scan_questions.was) c.if-ladder_copy-timers.false c.if-list_copy-timers.false c.if-ladder_copy-table.false c.if-not-whole.false (sym c.watchdog_in_range.ensures ∙ c.if-not-watchdog_in_range.false)
