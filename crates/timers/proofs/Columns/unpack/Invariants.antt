-- `timers::Columns::unpack` meets its contract. The loop's invariant: the first `i` entries of each slice are the records'.
use Rattle.timers.specs.Parts.{SameSlices}
use Rattle.timers.proofs.Packing.{Unpacking}
use Rattle.timers.proofs.Columns.unpack.Given as goal

abbrev pub invariant-loop-i : goal.invariant-loop-i
invariant-loop-i l =
    let a = l.fn.self in
    let b = l.self in
    record {
      filled : Unpacking l.timers a.start.now a.running.now a.done.now b.start.now b.running.now b.done.now l.i;
      same : SameSlices a b;
    }
