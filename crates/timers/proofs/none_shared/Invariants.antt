-- `timers::none_shared` meets its contract. The loop's invariant: the variables from `number` on differ just when all do.
use Rattle.timers.proofs.Asking.{Differing}
use Rattle.timers.proofs.none_shared.Given as goal

abbrev pub invariant-loop-number : goal.invariant-loop-number
invariant-loop-number l = Differing l.timers l.number
