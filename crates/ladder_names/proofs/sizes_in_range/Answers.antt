-- `ladder_names::sizes_in_range` meets its contract: the three tests of question 5 one after the other. Assumes nothing.
use Rattle.std.proofs.Common.{refl, sym, ◌∙◌, true≢false, le-leb}
use borrow.Author.Tests.{lt-leb}
use Rattle.ladder_definitions.specs.Questions.{most_rungs}
use Rattle.ladder_names.proofs.Asked.{sizes_tested}
use Rattle.ladder_names.proofs.sizes_in_range.Goals as goal
use Rattle.ladder_names.proofs.sizes_in_range.Goals.{then-lengths-le-MOST_RECORDS, else-lengths-le-MOST_RECORDS}

pub returns-then-lengths_in_range : goal.returns-then-lengths_in_range
returns-then-lengths_in_range c =
    elim c.if-lengths-le-MOST_RECORDS.branch [
      | then-lengths-le-MOST_RECORDS w ↦
          let e = sym w.lengths_in_range.ensures ∙ sym w.value-is ∙ c.if-lengths_in_range.true in
          sizes_tested _ _ (rw (le-leb _ most_rungs w.if-lengths-le-MOST_RECORDS.true, e) refl)
      | else-lengths-le-MOST_RECORDS w ↦ absurd (true≢false (sym c.if-lengths_in_range.true ∙ w.value-is ∙ lt-leb _ most_rungs w.if-lengths-le-MOST_RECORDS.false))
    ]

pub returns-else-lengths_in_range : goal.returns-else-lengths_in_range
returns-else-lengths_in_range c =
    elim c.if-lengths-le-MOST_RECORDS.branch [
      | then-lengths-le-MOST_RECORDS w ↦
          let e = sym w.lengths_in_range.ensures ∙ sym w.value-is ∙ c.if-lengths_in_range.false in
          sizes_tested _ _ (rw (le-leb _ most_rungs w.if-lengths-le-MOST_RECORDS.true, e, c.if-lengths_in_range.false) refl)
      | else-lengths-le-MOST_RECORDS w ↦ sizes_tested _ _ (rw (w.value-is, lt-leb _ most_rungs w.if-lengths-le-MOST_RECORDS.false) refl)
    ]
