-- `list_questions::records_laid` meets its contract. The loop's invariant: what is left is laid from `start` on just when all is laid from 0.
-- A record's offset is below 2^32, and so is `start` once the two are equal, so no sum wraps. Assumes nothing.
use mathlib.Core.Path.{sym, ◌∙◌}
use native.Mathlib.Omega.{arith}
use Rattle.std.proofs.lemmas.Slice.Zip.{Zip-more, either_empty_from_Zip}
use Rattle.list_questions.proofs.Ranges.{laid_off, laid_empty, laid_more, laid_done}
use Rattle.list_questions.proofs.records_laid.Goals as goal
use Rattle.list_questions.proofs.records_laid.Goals.{then-off-via-then-off, then-off-via-else-off+then-empty}

pub returns-then-off : goal.returns-then-off
returns-then-off c =
    let more = Zip-more c.loop-offset.offset-iterator c.next.new.self _ _ c.in-Some.is c.next.ensures.steps in
    let inv = rw (more.0, more.1) at c.loop-offset.invariant.2 in
    elim c.then-off.branch [
      | then-off-via-then-off w ↦ laid_off inv (λ e. w.if-off.true (c.from.ensures ∙ e))
      | then-off-via-else-off+then-empty w ↦ laid_empty inv w.if-empty.true
    ]

pub loop-offset-preserved : goal.loop-offset-preserved
loop-offset-preserved c =
    let more = Zip-more c.loop-offset.offset-iterator c.next.new.self _ _ c.in-Some.is c.next.ensures.steps in
    let inv = rw (more.0, more.1) at c.loop-offset.invariant.2 in
    (c.loop-offset.invariant.0, c.loop-offset.invariant.1, rw c.from-start.ensures (laid_more inv (sym c.from.ensures ∙ c.if-off.false) c.if-empty.false (omega arith)))

pub returns : goal.returns
returns c = laid_done c.loop-offset.invariant.2 (either_empty_from_Zip c.loop-offset.offset-iterator c.next.new.self _ c.in-None.is c.next.ensures.steps)
