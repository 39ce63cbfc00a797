-- `timers::put_timer` meets its contract: five numbers are copied.
use Rattle.std.proofs.Common.{◌∷◌, [], arith, refl}
use Rattle.timers.proofs.Packing.{five_put}
use Rattle.timers.proofs.put_timer.Goals as goal

pub returns : goal.returns
returns c =
    let t = c.args.timer in
    five_put c.args.timers.now (t.preset ∷ t.start ∷ t.variable ∷ t.running ∷ t.done ∷ []) _ c.args.at _ c.requires refl (omega arith) c.copy_from_slice.ensures.after
