-- `ladder_rows::run` meets its contract: the scan, after which table and timer records stand as the state left them. Assumes nothing.
use Rattle.std.proofs.Common.{sym}
use Rattle.ladder_rows.proofs.run.Goals as goal

pub returns : goal.returns
returns c =
    let s = c.scan.ensures in
    let table = c.table-1.given.1.1 (sym s.same.table) in
    let timers = c.timers-1.given.1.1 (sym s.same.timers) in
    rw (table, timers) s.scanned
