-- `reader::read_list` meets its contract: questions 14 and 1, all rungs, the sizes of question 10, and `hand_over` for the rest. Assumes nothing.
use mathlib.Core.Path.{refl, sym, ◌∙◌}
use Rattle.std.proofs.Common.{rules}
use Rattle.reader.proofs.Answers.{few_vars, refused_14, refused_1, read_stuck, read_too_many, read_done}
use Rattle.reader.proofs.read_list.Goals as goal

pub returns-then-not-is_name_table-clause-read : goal.returns-then-not-is_name_table-clause-read
returns-then-not-is_name_table-clause-read c = refused_14 _ _ _ _ (sym c.is_name_table.ensures ∙ c.if-not-is_name_table.true)

pub returns-then-not-vars_in_range-clause-read : goal.returns-then-not-vars_in_range-clause-read
returns-then-not-vars_in_range-clause-read c =
    refused_1 _ _ _ _ (sym c.is_name_table.ensures ∙ c.if-not-is_name_table.false) (sym c.vars_in_range.ensures ∙ c.if-not-vars_in_range.true)

pub rungs_of-requires : goal.rungs_of-requires
rungs_of-requires c = few_vars _ (sym c.vars_in_range.ensures ∙ c.if-not-vars_in_range.false)

pub returns-in_default-clause-read : goal.returns-in_default-clause-read
returns-in_default-clause-read c =
    read_stuck _ _ _ _ (sym c.is_name_table.ensures ∙ c.if-not-is_name_table.false) (sym c.vars_in_range.ensures ∙ c.if-not-vars_in_range.false)
    _ _ c.in_default.ensures.kept

pub returns-then-sizes-gt-MOST_INSTRUCTIONS-clause-read : goal.returns-then-sizes-gt-MOST_INSTRUCTIONS-clause-read
returns-then-sizes-gt-MOST_INSTRUCTIONS-clause-read c =
    read_too_many _ _ _ _ (sym c.is_name_table.ensures ∙ c.if-not-is_name_table.false) (sym c.vars_in_range.ensures ∙ c.if-not-vars_in_range.false)
    _ _ _ c.in-Some.ensures.kept c.then-sizes-gt-MOST_INSTRUCTIONS.either

pub returns-clause-read : goal.returns-clause-read
returns-clause-read c =
    read_done _ _ _ _ (sym c.is_name_table.ensures ∙ c.if-not-is_name_table.false) (sym c.vars_in_range.ensures ∙ c.if-not-vars_in_range.false)
    _ _ _ c.in-Some.ensures.kept c.if-sizes-gt-MOST_INSTRUCTIONS.false c.if-sizes-gt-MOST_RECORDS.false
    (record { words = refl; labels = refl; offsets = refl; lengths = refl }) _ _ _ c.hand_over.ensures.read (search rules)
