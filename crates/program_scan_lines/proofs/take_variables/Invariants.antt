-- `program_scan_lines::take_variables` meets its contract. The loop's invariant: what is left of the line leads where the whole line does. Assumes nothing.
use Rattle.program_scan_lines.proofs.Fills.{Filling}
use Rattle.program_scan_lines.proofs.take_variables.Given as goal

abbrev pub invariant-loop-i : goal.invariant-loop-i
invariant-loop-i l = Filling l.input l.from l.vars l.initial.table l.table l.variables l.i
