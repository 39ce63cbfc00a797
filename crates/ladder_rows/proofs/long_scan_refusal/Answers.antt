-- `ladder_rows::long_scan_refusal` meets its contract. One law for each return. Assumes nothing.
use Rattle.std.proofs.Common.{sym, ◌∙◌}
use Rattle.ladder_rows.proofs.Long.{long_vars, long_timers, long_legal}
use Rattle.ladder_rows.proofs.long_scan_refusal.Goals as goal

pub returns-then-not-vars_in_range : goal.returns-then-not-vars_in_range
returns-then-not-vars_in_range c = long_vars _ _ _ (sym c.vars_in_range.ensures ∙ c.if-not-vars_in_range.true)

pub returns-then-not-timers_in_range : goal.returns-then-not-timers_in_range
returns-then-not-timers_in_range c = long_timers _ _ _ (sym c.vars_in_range.ensures ∙ c.if-not-vars_in_range.false) (sym c.timers_in_range.ensures ∙ c.if-not-timers_in_range.true)

pub returns-else-not-timers_in_range : goal.returns-else-not-timers_in_range
returns-else-not-timers_in_range c =
    long_legal _ _ _ _ c.long_refusal.ensures (sym c.vars_in_range.ensures ∙ c.if-not-vars_in_range.false) (sym c.timers_in_range.ensures ∙ c.if-not-timers_in_range.false)
