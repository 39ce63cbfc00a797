-- `program_scan_report::put_rungs` meets its contract. Assumes nothing.
use native.Mathlib.Omega.{arith}
use Rattle.std.proofs.Common.{length}
use Rattle.std.proofs.lemmas.List.{length_push}
use Rattle.std.proofs.lemmas.Slice.Zip.{zip_turn, zip_end}
use Rattle.program_scan_report.proofs.Rungs.{entering_start, entering_none, entering_more, entering_end}
use Rattle.program_scan_report.proofs.put_rungs.Goals as goal

pub loop-label-init : goal.loop-label-init
loop-label-init c = ((tt, tt), tt, entering_start _ _ _ _)

pub put_entered-end-requires : goal.put_entered-end-requires
put_entered-end-requires c = omega (arith, c.loop-label.invariant.2.room, c.loop-label.invariant.2.within, c.requires.0, c.requires.1)

pub loop-label-preserved-then-entered : goal.loop-label-preserved-then-entered
loop-label-preserved-then-entered c =
    let gives = c.into_iter-label-iterator.ensures.into_iter_gives in
    let turn = zip_turn c.args.labels.now c.args.times.now c.loop-label.yielded c.into_iter-label-iterator.result c.loop-label.label-iterator c.next.new.self _
    (rw (gives, c.zip-label-items.ensures.first) c.iter.ensures.rest) (rw gives c.zip-label-items.ensures.second.0)
    c.loop-label.yielded_by _ c.in-Some.is c.next.ensures.steps in
    let i = length c.loop-label.yielded in
    let more = entering_more c.loop-label.invariant.2 turn.0 turn.1 (rw (turn.3 0) at c.if-entered.true)
    (omega (arith, c.type_inv.labels i)) (omega (arith, c.type_inv.times i)) (rw (turn.2 0, turn.3 0) at c.put_entered-end.ensures) in
    ((tt, tt), tt, rw (length_push c.loop-label.yielded) more)

pub loop-label-preserved : goal.loop-label-preserved
loop-label-preserved c =
    let gives = c.into_iter-label-iterator.ensures.into_iter_gives in
    let turn = zip_turn c.args.labels.now c.args.times.now c.loop-label.yielded c.into_iter-label-iterator.result c.loop-label.label-iterator c.next.new.self _
    (rw (gives, c.zip-label-items.ensures.first) c.iter.ensures.rest) (rw gives c.zip-label-items.ensures.second.0)
    c.loop-label.yielded_by _ c.in-Some.is c.next.ensures.steps in
    ((tt, tt), tt, rw (length_push c.loop-label.yielded) (entering_none c.loop-label.invariant.2 turn.0 turn.1 (rw (turn.3 0) at c.if-entered.false)))

pub returns : goal.returns
returns c =
    let gives = c.into_iter-label-iterator.ensures.into_iter_gives in
    let ends = zip_end c.args.labels.now c.args.times.now c.loop-label.yielded c.into_iter-label-iterator.result c.loop-label.label-iterator c.next.new.self _
    (rw (gives, c.zip-label-items.ensures.first) c.iter.ensures.rest) (rw gives c.zip-label-items.ensures.second.0)
    c.loop-label.yielded_by c.in-None.is c.next.ensures.steps in
    entering_end c.loop-label.invariant.2 ends
