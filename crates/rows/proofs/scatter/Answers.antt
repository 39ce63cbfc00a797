-- `rows::scatter` meets its contract: record by record, one more is stored.
use Rattle.std.proofs.Common.{◌≡◌, arith}
use Rattle.rows.proofs.Scatters.{Full, scattered_start, scattered_next, scattered_all, scattered_times}
use Rattle.rows.proofs.scatter.Goals as goal

pub loop-i-init : goal.loop-i-init
loop-i-init c = scattered_start c.args.rows.now c.args.row.now

pub loop-i-preserved : goal.loop-i-preserved
loop-i-preserved c =
    let arrays : Full c.args.rows.now = record { labels = omega arith; offsets = omega arith; lengths = omega arith } in
    rw c.loop-i.invariant (scattered_next c.args.rows.now arrays c.loop-i.i c.args.row.now (omega arith) (omega arith))

pub returns : goal.returns
returns c =
    let arrays : Full c.args.rows.now = record { labels = omega arith; offsets = omega arith; lengths = omega arith } in
    let whole : c.loop-i.i ≡ c.args.n = omega arith in (
      rw (c.loop-i.invariant, whole) (scattered_all c.args.rows.now arrays c.args.n c.args.row.now (omega arith) (omega arith)),
      rw (c.loop-i.invariant, whole) (scattered_times c.args.rows.now arrays c.args.n c.args.row.now (omega arith) (omega arith)),
    )
