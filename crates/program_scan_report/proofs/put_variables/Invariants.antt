-- The loop passes the variables one by one, and the lines from `i` on are left.
use Rattle.program_scan_report.proofs.Printing.{Changing}
use Rattle.program_scan_report.proofs.put_variables.Given as goal

abbrev pub invariant-loop-i : goal.invariant-loop-i
invariant-loop-i l = Changing l.from l.vars l.before l.ladder l.list l.initial.out l.out l.end l.i
