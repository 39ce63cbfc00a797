-- The names from the loop's index on are left.
use Rattle.program_scan_unread.proofs.Marks.{Naming}
use Rattle.program_scan_unread.proofs.put_names.Given as goal

abbrev pub invariant-loop-variable : goal.invariant-loop-variable
invariant-loop-variable l = Naming l.from l.marks l.initial.out l.out l.end l.variable
