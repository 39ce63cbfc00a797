-- `ladder_kept::holds_ladder` meets its contract. The loop's invariant: the records not yielded yet and the words left hold rungs just when all do.
-- Assumes nothing.
use Rattle.std.proofs.Common.{sym, ap, ◌∙◌, arith}
use Rattle.std.proofs.lemmas.List.{length_push}
use Rattle.ladder_kept.specs.Pending.{completes}
use Rattle.std.proofs.lemmas.Slice.Zip.{zip_turn, zip_end}
use Rattle.ladder_kept.proofs.Holding.{no_row, walk_start, record_long, record_off, rung_wrong, rung_right, records_end}
use Rattle.ladder_kept.proofs.holds_ladder.Goals as goal
use Rattle.ladder_kept.proofs.holds_ladder.Goals.{then-offset-words-via-then-offset-words, then-offset-words-via-else-offset-words+then-not-holds_rung}

pub returns-then-not-timed : goal.returns-then-not-timed
returns-then-not-timed c = no_row _ _ _ _ _ c.then-not-timed.either

pub loop-offset-init : goal.loop-offset-init
loop-offset-init c = walk_start _ _

pub returns-in_default : goal.returns-in_default
returns-in_default c =
    let z = zip_turn c.args.ladder.offsets.now c.args.ladder.lengths.now c.loop-offset.yielded c.into_iter-offset-iterator.result _ c.next.new.self _ (cc) (cc) c.loop-offset.yielded_by _ c.in-Some.is c.next.ensures.steps in
    record_long _ _ _ _ _ c.if-not-timed.false c.if-records-offsets.false c.if-records-lengths.false c.if-records-eq0.false c.loop-offset.invariant (omega arith) _ (z.3 0) c.in_default.ensures.cases

pub overflow_sub-words : goal.overflow_sub-words
overflow_sub-words c = c.loop-offset.invariant.within

pub returns-then-offset-words : goal.returns-then-offset-words
returns-then-offset-words c =
    let z = zip_turn c.args.ladder.offsets.now c.args.ladder.lengths.now c.loop-offset.yielded c.into_iter-offset-iterator.result _ c.next.new.self _ (cc) (cc) c.loop-offset.yielded_by _ c.in-Some.is c.next.ensures.steps in
    let split = c.in-Some-split_at_checked.ensures.cases in
    elim c.then-offset-words.branch [
      | then-offset-words-via-then-offset-words w ↦
          record_off _ _ _ _ _ c.if-not-timed.false c.if-records-offsets.false c.if-records-lengths.false c.if-records-eq0.false c.loop-offset.invariant (omega arith) _ (z.3 0) (λ e. w.if-offset-words.true (z.2 0 ∙ e))
      | then-offset-words-via-else-offset-words+then-not-holds_rung w ↦
          rung_wrong _ _ _ _ _ c.if-not-timed.false c.if-records-offsets.false c.if-records-lengths.false c.if-records-eq0.false c.loop-offset.invariant (omega arith) _ (z.3 0) (ap (completes 1 1) (sym split.1) ∙ sym w.holds_rung.ensures ∙ w.if-not-holds_rung.true)
    ]

pub loop-offset-preserved : goal.loop-offset-preserved
loop-offset-preserved c =
    let z = zip_turn c.args.ladder.offsets.now c.args.ladder.lengths.now c.loop-offset.yielded c.into_iter-offset-iterator.result _ c.next.new.self _ (cc) (cc) c.loop-offset.yielded_by _ c.in-Some.is c.next.ensures.steps in
    let split = c.in-Some-split_at_checked.ensures.cases in
    let more = length_push c.loop-offset.yielded (c.in-Some.offset, c.in-Some.length) in
    rw (more, split.2)
    (rung_right _ _ _ _ _ c.if-not-timed.false c.if-records-offsets.false c.if-records-lengths.false c.if-records-eq0.false c.loop-offset.invariant (omega arith) _ (z.3 0) (sym (z.2 0) ∙ c.if-offset-words.false) split.0
    (ap (completes 1 1) (sym split.1) ∙ sym c.holds_rung.ensures ∙ c.if-not-holds_rung.false))

pub returns : goal.returns
returns c =
    let e = zip_end c.args.ladder.offsets.now c.args.ladder.lengths.now c.loop-offset.yielded c.into_iter-offset-iterator.result _ c.next.new.self _ (cc) (cc) c.loop-offset.yielded_by c.in-None.is c.next.ensures.steps in
    c.is_empty.ensures ∙ records_end _ _ _ _ _ c.if-not-timed.false c.if-records-offsets.false c.if-records-lengths.false c.if-records-eq0.false c.loop-offset.invariant (omega arith)
