-- `list::scan_questions` meets its contract: questions 1, 16, 10, 17, 11 and 12 in order. Assumes nothing.
use mathlib.Core.Path.{sym, ◌∙◌}
use Rattle.list.proofs.Answers.{asked_variables, asked_timers, asked_list_lem, asked_number, asked_table, asked_watchdog_lem, asked_accepted}
use Rattle.list.proofs.scan_questions.Goals as goal

pub returns-then-not-vars_in_range : goal.returns-then-not-vars_in_range
returns-then-not-vars_in_range c = asked_variables _ _ _ _ _ _ (sym c.vars_in_range.ensures ∙ c.if-not-vars_in_range.true)

pub returns-then-not-timers_in_range : goal.returns-then-not-timers_in_range
returns-then-not-timers_in_range c = asked_timers _ _ _ _ _ _ (sym c.vars_in_range.ensures ∙ c.if-not-vars_in_range.false) (sym c.timers_in_range.ensures ∙ c.if-not-timers_in_range.true)

pub returns-then-not-row_in_range : goal.returns-then-not-row_in_range
returns-then-not-row_in_range c = asked_list_lem _ _ _ _ _ _ (sym c.vars_in_range.ensures ∙ c.if-not-vars_in_range.false) (sym c.timers_in_range.ensures ∙ c.if-not-timers_in_range.false) (sym c.row_in_range.ensures ∙ c.if-not-row_in_range.true)

pub returns-then-not-timers_known : goal.returns-then-not-timers_known
returns-then-not-timers_known c = asked_number _ _ _ _ _ _ (sym c.vars_in_range.ensures ∙ c.if-not-vars_in_range.false) (sym c.timers_in_range.ensures ∙ c.if-not-timers_in_range.false) (sym c.row_in_range.ensures ∙ c.if-not-row_in_range.false) _ c.timers_known.ensures c.if-not-timers_known.true

pub returns-then-not-table_in_range : goal.returns-then-not-table_in_range
returns-then-not-table_in_range c = asked_table _ _ _ _ _ _ (sym c.vars_in_range.ensures ∙ c.if-not-vars_in_range.false) (sym c.timers_in_range.ensures ∙ c.if-not-timers_in_range.false) (sym c.row_in_range.ensures ∙ c.if-not-row_in_range.false) _ c.timers_known.ensures c.if-not-timers_known.false (sym c.table_in_range.ensures ∙ c.if-not-table_in_range.true)

pub returns-then-not-watchdog_in_range : goal.returns-then-not-watchdog_in_range
returns-then-not-watchdog_in_range c = asked_watchdog_lem _ _ _ _ _ _ (sym c.vars_in_range.ensures ∙ c.if-not-vars_in_range.false) (sym c.timers_in_range.ensures ∙ c.if-not-timers_in_range.false) (sym c.row_in_range.ensures ∙ c.if-not-row_in_range.false) _ c.timers_known.ensures c.if-not-timers_known.false (sym c.table_in_range.ensures ∙ c.if-not-table_in_range.false) (sym c.watchdog_in_range.ensures ∙ c.if-not-watchdog_in_range.true)

pub returns : goal.returns
returns c = asked_accepted _ _ _ _ _ _ (sym c.vars_in_range.ensures ∙ c.if-not-vars_in_range.false) (sym c.timers_in_range.ensures ∙ c.if-not-timers_in_range.false) (sym c.row_in_range.ensures ∙ c.if-not-row_in_range.false) _ c.timers_known.ensures c.if-not-timers_known.false (sym c.table_in_range.ensures ∙ c.if-not-table_in_range.false) (sym c.watchdog_in_range.ensures ∙ c.if-not-watchdog_in_range.false)
