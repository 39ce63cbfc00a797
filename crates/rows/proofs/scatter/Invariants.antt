-- The loop's invariant: the records before `i` are stored.
use Rattle.std.proofs.Common.{◌≡◌}
use Rattle.rows.proofs.Scatters.{scattered_to}
use Rattle.rows.proofs.scatter.Given as goal

abbrev pub invariant-loop-i : goal.invariant-loop-i
invariant-loop-i l = l.row ≡ scattered_to l.i l.rows l.fn.row
