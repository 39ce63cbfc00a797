-- `ladder::scan_questions` meets its contract: questions 1, 16, 4 to 8, 17, 9, 11 and 12 in order. Assumes nothing.
use mathlib.Core.Path.{sym, ◌∙◌}
use Rattle.questions.proofs.Laws.Answers.{err_passed, verdict_refused, verdict_accepted}
use Rattle.ladder.proofs.Answers.{scan_refused1, scan_refused16, scan_refused8, scan_refused17, asked17, scan_refused9, asked9, scan_refused11, scan_refused12, scan_accepted12}
use Rattle.ladder.proofs.scan_questions.Goals as goal

pub returns-then-not-vars_in_range : goal.returns-then-not-vars_in_range
returns-then-not-vars_in_range c = scan_refused1 _ _ _ _ _ _ _ _ _ (sym c.vars_in_range.ensures ∙ c.if-not-vars_in_range.true)

pub returns-then-not-timers_in_range : goal.returns-then-not-timers_in_range
returns-then-not-timers_in_range c = scan_refused16 _ _ _ _ _ _ _ _ _ (record { yes1 = sym c.vars_in_range.ensures ∙ c.if-not-vars_in_range.false }) (sym c.timers_in_range.ensures ∙ c.if-not-timers_in_range.true)

pub returns-in_err-form_answer : goal.returns-in_err-form_answer
returns-in_err-form_answer c = rw (err_passed c.from_residual.ensures.1) (scan_refused8 _ _ _ _ _ _ _ _ _ (record { past = record { yes1 = sym c.vars_in_range.ensures ∙ c.if-not-vars_in_range.false }; yes16 = sym c.timers_in_range.ensures ∙ c.if-not-timers_in_range.false }) _ (verdict_refused _ c.form_answer.ensures c.in_err-form_answer.was))

pub returns-then-not-timers_known : goal.returns-then-not-timers_known
returns-then-not-timers_known c = scan_refused17 _ _ _ _ _ _ _ _ _ (record { past = record { past = record { yes1 = sym c.vars_in_range.ensures ∙ c.if-not-vars_in_range.false }; yes16 = sym c.timers_in_range.ensures ∙ c.if-not-timers_in_range.false }; formed = verdict_accepted c.form_answer.ensures c.in_ok-form_answer.was }) _ c.timers_known.ensures c.if-not-timers_known.true

pub returns-then-not-scratch_in_range : goal.returns-then-not-scratch_in_range
returns-then-not-scratch_in_range c = scan_refused9 _ _ _ _ _ _ _ _ _ (asked17 _ _ _ _ _ _ _ _ _ (record { past = record { past = record { yes1 = sym c.vars_in_range.ensures ∙ c.if-not-vars_in_range.false }; yes16 = sym c.timers_in_range.ensures ∙ c.if-not-timers_in_range.false }; formed = verdict_accepted c.form_answer.ensures c.in_ok-form_answer.was }) _ c.timers_known.ensures c.if-not-timers_known.false) _ c.scratch_in_range.ensures c.if-not-scratch_in_range.true

pub returns-then-not-table_in_range : goal.returns-then-not-table_in_range
returns-then-not-table_in_range c = scan_refused11 _ _ _ _ _ _ _ _ _ (asked9 _ _ _ _ _ _ _ _ _ (asked17 _ _ _ _ _ _ _ _ _ (record { past = record { past = record { yes1 = sym c.vars_in_range.ensures ∙ c.if-not-vars_in_range.false }; yes16 = sym c.timers_in_range.ensures ∙ c.if-not-timers_in_range.false }; formed = verdict_accepted c.form_answer.ensures c.in_ok-form_answer.was }) _ c.timers_known.ensures c.if-not-timers_known.false) _ c.scratch_in_range.ensures c.if-not-scratch_in_range.false) (sym c.table_in_range.ensures ∙ c.if-not-table_in_range.true)

pub returns-then-not-watchdog_in_range : goal.returns-then-not-watchdog_in_range
returns-then-not-watchdog_in_range c = scan_refused12 _ _ _ _ _ _ _ _ _ (record { past = asked9 _ _ _ _ _ _ _ _ _ (asked17 _ _ _ _ _ _ _ _ _ (record { past = record { past = record { yes1 = sym c.vars_in_range.ensures ∙ c.if-not-vars_in_range.false }; yes16 = sym c.timers_in_range.ensures ∙ c.if-not-timers_in_range.false }; formed = verdict_accepted c.form_answer.ensures c.in_ok-form_answer.was }) _ c.timers_known.ensures c.if-not-timers_known.false) _ c.scratch_in_range.ensures c.if-not-scratch_in_range.false; yes11 = sym c.table_in_range.ensures ∙ c.if-not-table_in_range.false }) (sym c.watchdog_in_range.ensures ∙ c.if-not-watchdog_in_range.true)

pub returns : goal.returns
returns c = scan_accepted12 _ _ _ _ _ _ _ _ _ (record { past = asked9 _ _ _ _ _ _ _ _ _ (asked17 _ _ _ _ _ _ _ _ _ (record { past = record { past = record { yes1 = sym c.vars_in_range.ensures ∙ c.if-not-vars_in_range.false }; yes16 = sym c.timers_in_range.ensures ∙ c.if-not-timers_in_range.false }; formed = verdict_accepted c.form_answer.ensures c.in_ok-form_answer.was }) _ c.timers_known.ensures c.if-not-timers_known.false) _ c.scratch_in_range.ensures c.if-not-scratch_in_range.false; yes11 = sym c.table_in_range.ensures ∙ c.if-not-table_in_range.false }) (sym c.watchdog_in_range.ensures ∙ c.if-not-watchdog_in_range.false)
