-- `timers::run_timer` meets its contract: the record is worked, and its variable gets done.
use Rattle.std.proofs.Common.{◌∙◌, ap}
use Rattle.table.specs.Timer.{powered}
use Rattle.table.specs.TimerRecords.{numbers_of}
use Rattle.timers.specs.Parts.{timer_of}
use Rattle.timers.proofs.Working.{runs_none, runs}
use Rattle.timers.proofs.run_timer.Goals as goal

pub returns-then-at-state : goal.returns-then-at-state
unfolding numbers_of
returns-then-at-state c =
    let a = c.args in
    let w = c.write.ensures.changed in
    let worked = c.powered-timer.ensures ∙ ap (λ t. powered a.state.now.tick a.power t) c.at.ensures in
    runs a.state.now c.write.new.self a.number a.power (timer_of c.powered-timer.result) c.put_timer.new.timers c.if-at-state.true worked c.put_timer.ensures w.same w.same_table w.same_timers

pub returns-else-at-state : goal.returns-else-at-state
returns-else-at-state c = runs_none c.args.state.now c.args.state.now c.args.number c.args.power c.if-at-state.false
