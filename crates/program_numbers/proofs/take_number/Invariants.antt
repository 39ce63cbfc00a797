-- What is left of the line, after what was taken, leads where the whole line does.
use Rattle.program_numbers.proofs.Lines.{Numbering}
use Rattle.program_numbers.proofs.take_number.Given as goal

abbrev pub invariant-loop-i : goal.invariant-loop-i
invariant-loop-i l = Numbering l.input l.from l.line l.i
