-- The loop's invariant: the times before `i` are stored.
use Rattle.std.proofs.Common.{◌≡◌}
use Rattle.rows.proofs.Times.{timed_to}
use Rattle.rows.proofs.put_times.Given as goal

abbrev pub invariant-loop-i : goal.invariant-loop-i
invariant-loop-i l = l.row ≡ timed_to l.i l.times l.fn.row
