-- `timers::all_below` meets its contract. The loop's invariant: the records from `number` on pass the test just when all do.
use Rattle.questions.specs.Tests.{all}
use Rattle.table.specs.Questions.{timer_below}
use Rattle.table.specs.TimerRecords.{timers_in}
use Rattle.timers.proofs.Asking.{Testing}
use Rattle.timers.proofs.all_below.Given as goal

abbrev pub invariant-loop-number : goal.invariant-loop-number
invariant-loop-number l = Testing (timer_below l.vars) l.timers (all (timer_below l.vars) (timers_in l.timers)) l.number
