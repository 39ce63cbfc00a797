-- `ladder_scratch::scratch_in_range` meets its contract. The loop's invariant: what is left decides for all. Assumes nothing.
use Rattle.std.proofs.lemmas.List.{length_push}
use Rattle.std.proofs.lemmas.Slice.Zip.{zip_turn, zip_end}
use Rattle.ladder_scratch.proofs.Asked.{measuring_first, measured_all, measured_more, measured_few}
use Rattle.ladder_scratch.proofs.scratch_in_range.Goals as goal

pub loop-offset-init : goal.loop-offset-init
loop-offset-init c = measuring_first _ _ _

pub returns-then-not-few_scratch : goal.returns-then-not-few_scratch
returns-then-not-few_scratch c =
    let z = zip_turn c.args.offsets.now c.args.lengths.now c.loop-offset.yielded c.into_iter-offset-iterator.result _ c.next.new.self _ (cc) (cc) c.loop-offset.yielded_by _ c.in-Some.is c.next.ensures.steps in
    measured_more _ _ _ _ c.loop-offset.invariant z.0 _ (z.2 0) _ (z.3 0) _ c.few_scratch.ensures c.if-not-few_scratch.true

pub loop-offset-preserved : goal.loop-offset-preserved
loop-offset-preserved c =
    let z = zip_turn c.args.offsets.now c.args.lengths.now c.loop-offset.yielded c.into_iter-offset-iterator.result _ c.next.new.self _ (cc) (cc) c.loop-offset.yielded_by _ c.in-Some.is c.next.ensures.steps in
    let more = length_push c.loop-offset.yielded (c.in-Some.offset, c.in-Some.length) in
    rw more (measured_few _ _ _ _ c.loop-offset.invariant z.0 _ (z.2 0) _ (z.3 0) _ c.few_scratch.ensures c.if-not-few_scratch.false)

pub returns : goal.returns
returns c = measured_all _ _ _ _ c.loop-offset.invariant (zip_end c.args.offsets.now c.args.lengths.now c.loop-offset.yielded c.into_iter-offset-iterator.result _ c.next.new.self _ (cc) (cc) c.loop-offset.yielded_by c.in-None.is c.next.ensures.steps)
