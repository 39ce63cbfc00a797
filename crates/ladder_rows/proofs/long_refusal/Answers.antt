-- `ladder_rows::long_refusal` meets its contract. One law for each return. Assumes nothing.
use Rattle.std.proofs.Common.{sym, ◌∙◌}
use Rattle.ladder_rows.proofs.Long.{long_variables, long_kept, long_sizes}
use Rattle.ladder_rows.proofs.long_refusal.Goals as goal

pub returns-then-not-vars_in_range : goal.returns-then-not-vars_in_range
returns-then-not-vars_in_range c = long_variables _ _ (sym c.vars_in_range.ensures ∙ c.if-not-vars_in_range.true)

pub returns-then-not-holds : goal.returns-then-not-holds
returns-then-not-holds c = long_kept _ _ (sym c.vars_in_range.ensures ∙ c.if-not-vars_in_range.false) c.if-not-holds.true

pub returns-else-not-holds : goal.returns-else-not-holds
returns-else-not-holds c = long_sizes _ _ (sym c.vars_in_range.ensures ∙ c.if-not-vars_in_range.false) c.if-not-holds.false
