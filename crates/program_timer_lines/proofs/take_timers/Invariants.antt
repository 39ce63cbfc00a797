-- The records that are held, with those that are left, are those of all lines. Each line takes a byte or more.
use Rattle.std.proofs.Common.{length, ◌-◌}
use Rattle.program_timer_lines.proofs.Records.{Holding}
use Rattle.program_timer_lines.proofs.take_timers.Given as goal

abbrev pub invariant-loop-line : goal.invariant-loop-line
invariant-loop-line l = Holding l.input l.from l.initial.numbers l.numbers l.count l.at

abbrev pub decreases-loop-line : goal.decreases-loop-line
decreases-loop-line l = length l.input - l.at
