-- `timers::Timer::tested` meets its contract: done already, or the elapsed time is at least the preset.
use Rattle.std.proofs.Common.{◌+◌, ◌∙◌, ◌≡◌, arith, ◌||◌, leb, ◌%◌, ◌-◌}
use Rattle.questions.specs.Tests.{truth}
use Rattle.table.specs.Timer.{elapsed}
use Rattle.timers.specs.Parts.{timer_of}
use Rattle.timers.proofs.Working.{done_already, done_now, tests}
use Rattle.timers.proofs.Timer.tested.Goals.{then-self-ne0, else-self-ne0}
use Rattle.timers.proofs.Timer.tested.Goals as goal

pub returns : goal.returns
unfolding elapsed
returns c =
    let t = timer_of c.args.self in
    let tick = c.args.tick in
    let is : c.if-self-ne0.done ≡ (truth t.done || leb t.preset (elapsed tick t.start)) = elim c.if-self-ne0.branch [
      | then-self-ne0 w ↦ w.done-is ∙ done_already tick t _ w.if-self-ne0.true
      | else-self-ne0 w ↦ w.done-is ∙ done_now tick t ((tick + (4294967296 - t.start)) % 4294967296) w.if-self-ne0.false (omega arith)
    ] in
    tests tick t c.if-self-ne0.done c.from.result is c.from.ensures
