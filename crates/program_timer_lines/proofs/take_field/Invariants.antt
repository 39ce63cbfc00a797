-- What is left of the field, after what was taken, leads where the whole field does.
use Rattle.program_timer_lines.proofs.Fields.{Fielding}
use Rattle.program_timer_lines.proofs.take_field.Given as goal

abbrev pub invariant-loop-i : goal.invariant-loop-i
invariant-loop-i l = Fielding l.input l.from l.most l.digits l.i
