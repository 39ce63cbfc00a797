-- `timers::Timer::started` meets its contract: a timer that is not running is started.
use Rattle.timers.specs.Parts.{timer_of}
use Rattle.timers.proofs.Working.{starts, runs_on}
use Rattle.timers.proofs.Timer.started.Goals as goal

pub returns-then-self-ne0 : goal.returns-then-self-ne0
returns-then-self-ne0 c = runs_on c.args.tick (timer_of c.args.self) c.if-self-ne0.true

pub returns-else-self-ne0 : goal.returns-else-self-ne0
returns-else-self-ne0 c = starts c.args.tick (timer_of c.args.self) c.if-self-ne0.false
