-- `timers::pack` meets its contract. The loop's invariant: the numbers of the records from `i` on, over what is written, are the whole.
use Rattle.std.proofs.Common.{◌*◌, ◌∙◌, ap}
use Rattle.std.proofs.lemmas.List.Edits.{sets}
use Rattle.table.specs.TimerRecords.{numbers_of}
use Rattle.timers.proofs.Packing.{packing_start, packing_more, packing_end}
use Rattle.timers.proofs.pack.Goals as goal

pub loop-i-init : goal.loop-i-init
loop-i-init c = packing_start _ _ c.requires

pub loop-i-preserved : goal.loop-i-preserved
unfolding numbers_of
loop-i-preserved c =
    let of = c.of-timer.ensures in
    let put = c.put_timer.ensures ∙ ap (λ t. sets c.loop-i.timers (c.loop-i.i * 5) (numbers_of t)) of.same in
    packing_more _ _ _ _ c.loop-i.invariant _ c.loop-i-test.true put c.put_timer.auto.timers of.bytes

pub shape_of-timers : goal.shape_of-timers
shape_of-timers c = c.loop-i.invariant.long

pub returns : goal.returns
returns c = packing_end _ _ _ _ c.loop-i.invariant c.loop-i-test.false c.requires
