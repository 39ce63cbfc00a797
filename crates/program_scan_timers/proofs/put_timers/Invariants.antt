-- The lines of the timers from `number` on are left.
use Rattle.program_scan_timers.proofs.Timers.{Timing}
use Rattle.program_scan_timers.proofs.put_timers.Given as goal

abbrev pub invariant-loop-number : goal.invariant-loop-number
invariant-loop-number l = Timing l.from l.before l.ladder l.list l.initial.out l.out l.end l.number
