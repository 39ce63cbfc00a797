-- `ladder::form_answer` meets its contract: questions 4 to 8 in order. Assumes nothing.
use mathlib.Core.Path.{sym, ◌∙◌}
use Rattle.ladder.proofs.Answers.{refused4, refused5, past5, refused6, past6, refused7, past7, refused8, accepted8}
use Rattle.ladder.proofs.form_answer.Goals as goal

pub returns-then-not-holds_ladder : goal.returns-then-not-holds_ladder
returns-then-not-holds_ladder c = refused4 _ _ _ _ _ _ (sym c.holds_ladder.ensures ∙ c.if-not-holds_ladder.true)

pub returns-then-not-sizes_in_range : goal.returns-then-not-sizes_in_range
returns-then-not-sizes_in_range c = refused5 _ _ _ _ _ _ (record { yes4 = sym c.holds_ladder.ensures ∙ c.if-not-holds_ladder.false }) _ c.sizes_in_range.ensures c.if-not-sizes_in_range.true

pub returns-in-Some : goal.returns-in-Some
returns-in-Some c = refused6 _ _ _ _ _ _ (past5 _ _ _ _ _ _ (record { yes4 = sym c.holds_ladder.ensures ∙ c.if-not-holds_ladder.false }) _ c.sizes_in_range.ensures c.if-not-sizes_in_range.false) _ _ c.unknown_variable.ensures c.in-Some.is

pub returns-in-Some-repeated_label : goal.returns-in-Some-repeated_label
returns-in-Some-repeated_label c = refused7 _ _ _ _ _ _ (past6 _ _ _ _ _ _ (past5 _ _ _ _ _ _ (record { yes4 = sym c.holds_ladder.ensures ∙ c.if-not-holds_ladder.false }) _ c.sizes_in_range.ensures c.if-not-sizes_in_range.false) _ c.unknown_variable.ensures c.in_default.is) _ _ c.repeated_label.ensures c.in-Some-repeated_label.is

pub returns-in-Some-missing_label : goal.returns-in-Some-missing_label
returns-in-Some-missing_label c = refused8 _ _ _ _ _ _ (past7 _ _ _ _ _ _ (past6 _ _ _ _ _ _ (past5 _ _ _ _ _ _ (record { yes4 = sym c.holds_ladder.ensures ∙ c.if-not-holds_ladder.false }) _ c.sizes_in_range.ensures c.if-not-sizes_in_range.false) _ c.unknown_variable.ensures c.in_default.is) _ c.repeated_label.ensures c.in_default-repeated_label.is) _ _ c.missing_label.ensures c.in-Some-missing_label.is

pub returns : goal.returns
returns c = accepted8 _ _ _ _ _ _ (past7 _ _ _ _ _ _ (past6 _ _ _ _ _ _ (past5 _ _ _ _ _ _ (record { yes4 = sym c.holds_ladder.ensures ∙ c.if-not-holds_ladder.false }) _ c.sizes_in_range.ensures c.if-not-sizes_in_range.false) _ c.unknown_variable.ensures c.in_default.is) _ c.repeated_label.ensures c.in_default-repeated_label.is) _ c.missing_label.ensures c.in_default-missing_label.is
