-- `list_rows::long_scan_refusal` meets its contract: questions 1 and 16, and then question 10, which says "no". Assumes nothing.
use Rattle.std.proofs.Common.{sym, ◌∙◌}
use Rattle.list_rows.proofs.Answers.{long_scan_variables, long_scan_timers, long_scan_list}
use Rattle.list_rows.proofs.long_scan_refusal.Goals as goal

pub returns-then-not-vars_in_range : goal.returns-then-not-vars_in_range
returns-then-not-vars_in_range c = long_scan_variables _ _ (sym c.vars_in_range.ensures ∙ c.if-not-vars_in_range.true)

pub returns-then-not-timers_in_range : goal.returns-then-not-timers_in_range
returns-then-not-timers_in_range c = long_scan_timers _ _ (sym c.vars_in_range.ensures ∙ c.if-not-vars_in_range.false) (sym c.timers_in_range.ensures ∙ c.if-not-timers_in_range.true)

pub returns-else-not-timers_in_range : goal.returns-else-not-timers_in_range
returns-else-not-timers_in_range c =
    long_scan_list _ _ _ (sym c.vars_in_range.ensures ∙ c.if-not-vars_in_range.false) (sym c.timers_in_range.ensures ∙ c.if-not-timers_in_range.false) c.long_refusal.ensures
