-- `list_printing::put_list` meets its contract. The loop's invariant: the text of the records from `k` on, over what is written, is the whole text,
-- and they are laid from `start` on, where k is how many are printed. Assumes nothing.
use native.Mathlib.Omega.{arith}
use Rattle.std.proofs.Common.{◌+◌, ◌-◌, ◌≡◌}
use Rattle.std.proofs.lemmas.List.{length_push}
use Rattle.std.proofs.lemmas.Slice.Zip.{zip_turn, zip_end}
use Rattle.list_definitions.specs.Names.{most_op}
use Rattle.list_definitions.proofs.Laws.Names.{name_short}
use Rattle.list_printing.proofs.Printed.{listing_start, next_within, next_ready, listing_more, listing_end}
use Rattle.list_printing.proofs.put_list.Goals as goal

pub loop-label-init : goal.loop-label-init
loop-label-init c = ((tt, tt), tt, listing_start _ _ _ _ _ _ _ c.requires.1)

pub slice_bounds-words-end : goal.slice_bounds-words-end
slice_bounds-words-end c =
    let gives = c.into_iter-label-iterator.ensures.into_iter_gives in
    let turn = zip_turn c.args.list.labels.now c.args.list.lengths.now c.loop-label.yielded c.into_iter-label-iterator.result c.loop-label.label-iterator c.next.new.self _
    (rw (gives, c.zip-label-items.ensures.first) c.iter.ensures.rest) (rw gives c.zip-label-items.ensures.second.0)
    c.loop-label.yielded_by _ c.in-Some.is c.next.ensures.steps in
    omega (arith, next_within c.loop-label.invariant.2 turn.0, turn.3 0)

pub put_rung-end-requires : goal.put_rung-end-requires
put_rung-end-requires c =
    let gives = c.into_iter-label-iterator.ensures.into_iter_gives in
    let turn = zip_turn c.args.list.labels.now c.args.list.lengths.now c.loop-label.yielded c.into_iter-label-iterator.result c.loop-label.label-iterator c.next.new.self _
    (rw (gives, c.zip-label-items.ensures.first) c.iter.ensures.rest) (rw gives c.zip-label-items.ensures.second.0)
    c.loop-label.yielded_by _ c.in-Some.is c.next.ensures.steps in
    let rung : c.loop-label.start + c.in-Some.length.now - c.loop-label.start ≡ c.in-Some.length.now = omega arith in
    (rw (rung, turn.3 0) (next_ready c.loop-label.invariant.2 turn.0 (rw (turn.2 0) at c.put_label-end.ensures) (omega (arith, turn.2 0))), c.requires.0)

pub loop-label-preserved : goal.loop-label-preserved
loop-label-preserved c =
    let gives = c.into_iter-label-iterator.ensures.into_iter_gives in
    let turn = zip_turn c.args.list.labels.now c.args.list.lengths.now c.loop-label.yielded c.into_iter-label-iterator.result c.loop-label.label-iterator c.next.new.self _
    (rw (gives, c.zip-label-items.ensures.first) c.iter.ensures.rest) (rw gives c.zip-label-items.ensures.second.0)
    c.loop-label.yielded_by _ c.in-Some.is c.next.ensures.steps in
    let rung : c.loop-label.start + c.in-Some.length.now - c.loop-label.start ≡ c.in-Some.length.now = omega arith in
    let more = listing_more c.loop-label.invariant.2 turn.0 (rw (turn.2 0) at c.put_label-end.ensures) (omega (arith, turn.2 0))
    (name_short most_op _) (rw (rung, turn.3 0) at c.put_rung-end.ensures) in
    (c.loop-label.invariant.0, c.loop-label.invariant.1, rw (length_push c.loop-label.yielded, turn.3 0) more)

pub returns : goal.returns
returns c =
    let gives = c.into_iter-label-iterator.ensures.into_iter_gives in
    let ends = zip_end c.args.list.labels.now c.args.list.lengths.now c.loop-label.yielded c.into_iter-label-iterator.result c.loop-label.label-iterator c.next.new.self _
    (rw (gives, c.zip-label-items.ensures.first) c.iter.ensures.rest) (rw gives c.zip-label-items.ensures.second.0)
    c.loop-label.yielded_by c.in-None.is c.next.ensures.steps in
    listing_end c.loop-label.invariant.2 (omega (arith, c.loop-label.invariant.2.can.lengths, ends))
