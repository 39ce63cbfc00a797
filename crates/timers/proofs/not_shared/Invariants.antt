-- `timers::not_shared` meets its contract. The loop's invariant: of the records from `later` on none has the variable just when of all later ones none has it.
use Rattle.std.proofs.Common.{◌+◌, ◌*◌, get_or, drop}
use Rattle.questions.specs.Tests.{all}
use Rattle.table.specs.TimerRecords.{timers_in}
use Rattle.timers.specs.Parts.{other_variable}
use Rattle.timers.proofs.Asking.{Testing}
use Rattle.timers.proofs.not_shared.Given as goal

abbrev pub invariant-loop-later : goal.invariant-loop-later
invariant-loop-later l =
    let test = other_variable (get_or l.timers (l.number * 5 + 2) 0) in
    Testing test l.timers (all test (timers_in (drop (l.number * 5 + 5) l.timers))) l.later
