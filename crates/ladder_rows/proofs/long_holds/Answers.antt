-- `ladder_rows::long_holds` meets its contract. The loop's invariant: the records from `i` on and the words left hold rungs just when all do.
use Rattle.std.proofs.Common.{refl, sym, ap, ◌∙◌}
use Rattle.ladder_kept.specs.Pending.{completes}
use Rattle.ladder_rows.proofs.Long.{few_hold, walk_end, record_long, record_off, rung_wrong, rung_right}
use Rattle.ladder_rows.proofs.long_holds.Goals as goal
use Rattle.ladder_rows.proofs.long_holds.Goals.{then-rung-words-via-then-rung-words, then-rung-words-via-else-rung-words+then-not-holds_rung}

pub returns-then-row-le-MOST_RECORDS : goal.returns-then-row-le-MOST_RECORDS
returns-then-row-le-MOST_RECORDS c = few_hold _ _ c.if-row-le-MOST_RECORDS.true

pub returns-in_default : goal.returns-in_default
returns-in_default c =
    record_long _ _ c.if-row-le-MOST_RECORDS.false c.loop-rung.invariant c.loop-rung-test.true _ refl c.in_default.ensures.cases

pub returns-then-rung-words : goal.returns-then-rung-words
returns-then-rung-words c =
    let split = c.in-Some.ensures.cases in
    elim c.then-rung-words.branch [
      | then-rung-words-via-then-rung-words w ↦
          record_off _ _ c.if-row-le-MOST_RECORDS.false c.loop-rung.invariant c.loop-rung-test.true _ refl w.if-rung-words.true
      | then-rung-words-via-else-rung-words+then-not-holds_rung w ↦
          rung_wrong _ _ c.if-row-le-MOST_RECORDS.false c.loop-rung.invariant c.loop-rung-test.true _ refl
          (ap (completes 1 1) (sym split.1) ∙ sym w.holds_rung.ensures ∙ w.if-not-holds_rung.true)
    ]

pub loop-rung-preserved : goal.loop-rung-preserved
loop-rung-preserved c =
    let split = c.in-Some.ensures.cases in
    rw split.2 (rung_right _ _ c.if-row-le-MOST_RECORDS.false c.loop-rung.invariant c.loop-rung-test.true _ refl c.if-rung-words.false split.0
    (ap (completes 1 1) (sym split.1) ∙ sym c.holds_rung.ensures ∙ c.if-not-holds_rung.false))

pub returns : goal.returns
returns c = c.is_empty.ensures ∙ walk_end _ _ c.if-row-le-MOST_RECORDS.false c.loop-rung.invariant c.loop-rung-test.false
