-- `timers::Columns::unpack` meets its contract. The loop's invariant: the first `i` entries of each slice are the records'.
use Rattle.std.proofs.Common.{arith, refl}
use Rattle.timers.proofs.Packing.{unpacking_start, running_fits, done_fits, unpacking_more, unpacking_end}
use Rattle.timers.proofs.Columns.unpack.Goals as goal

pub loop-i-init : goal.loop-i-init
loop-i-init c = record { filled = unpacking_start _ _ _ _ c.requires; same = record { preset = refl; variable = refl; start = refl; running = refl; done = refl } }

pub overflow_cast-self : goal.overflow_cast-self
overflow_cast-self c = let b = running_fits _ _ _ _ c.requires _ _ _ _ c.loop-i.invariant.filled c.loop-i-test.true in omega arith

pub overflow_cast-self-in-loop-i : goal.overflow_cast-self-in-loop-i
overflow_cast-self-in-loop-i c = let b = done_fits _ _ _ _ c.requires _ _ _ _ c.loop-i.invariant.filled c.loop-i-test.true in omega arith

pub loop-i-preserved : goal.loop-i-preserved
loop-i-preserved c =
    let same = c.loop-i.invariant.same in
    record {
      filled = unpacking_more _ _ _ _ c.requires _ _ _ _ c.loop-i.invariant.filled c.loop-i-test.true;
      same = record { preset = same.preset; variable = same.variable; start = same.start; running = same.running; done = same.done };
    }

pub returns : goal.returns
returns c = record { unpacked = unpacking_end _ _ _ _ c.requires _ _ _ _ c.loop-i.invariant.filled c.loop-i-test.false; same = c.loop-i.invariant.same }
