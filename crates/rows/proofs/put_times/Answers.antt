-- `rows::put_times` meets its contract: record by record, one time more is stored.
use Rattle.std.proofs.Common.{◌≡◌, length, arith}
use Rattle.rows.proofs.Times.{timed_start_lem, timed_next, timed_records, timed_times}
use Rattle.rows.proofs.put_times.Goals as goal

pub loop-i-init : goal.loop-i-init
loop-i-init c = timed_start_lem c.args.times.now c.args.row.now

pub loop-i-preserved : goal.loop-i-preserved
loop-i-preserved c = rw c.loop-i.invariant (timed_next c.loop-i.i c.args.times.now c.args.row.now (omega arith) (omega arith))

pub returns : goal.returns
returns c =
    let whole : c.loop-i.i ≡ length c.args.times.now = omega arith in
    (rw c.loop-i.invariant (timed_records _ _ _), rw (c.loop-i.invariant, whole) (timed_times _ _ _ (omega arith) (omega arith)))
