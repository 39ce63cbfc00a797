-- `list_machine::run` meets its contract: the zeros, and then the scan; table and timer records end as the state left them. Assumes nothing.
use mathlib.Core.Path.{sym}
use Rattle.list_machine.proofs.Laws.Runs.{ran_over}
use Rattle.list_machine.proofs.run.Goals as goal

pub returns : goal.returns
returns c =
    let s = c.scan.ensures in
    let table = c.table-1.given.1.1 (sym s.same_table) in
    let timers = c.timers-1.given.1.1 (sym s.same_timers) in
    rw (table, timers) (ran_over _ _ _ _ _ _ _ _ _ _ s.ran)
