-- `program_scan_timers::put_timers` meets its contract: the loop passes the timers one by one, and the lines from `number` on are left. Assumes nothing.
use Rattle.std.proofs.Common.{◌+◌, ◌*◌, ◌≤◌, ◌<◌, length, arith}
use Rattle.program_scan_timers.proofs.Timers.{timing_start, timing_same, timing_more, timing_end, ladder_differs, list_differs, neither_differs}
use Rattle.program_scan_timers.proofs.put_timers.Goals as goal
use Rattle.program_scan_timers.proofs.put_timers.Goals.{then-ne, then-ne-via-then-ne, then-ne-via-else-ne+then-ne-2, else-ne+else-ne-2}

pub loop-number-init : goal.loop-number-init
loop-number-init c = timing_start _ _ _ _ _

pub loop-number-preserved : goal.loop-number-preserved
loop-number-preserved c =
    let h = c.loop-number.invariant in
    let kb : c.loop-number.number * 5 + 5 ≤ length c.args.before.now = omega arith in
    let kl : c.loop-number.number * 5 + 5 ≤ length c.args.ladder.now = omega arith in
    let kt : c.loop-number.number * 5 + 5 ≤ length c.args.list.now = omega arith in
    let lt : c.loop-number.number < 32 = omega (arith, c.requires.1) in
    elim c.if-ne.branch [
      | then-ne w ↦
          rw (w.out-is, w.end-is) (timing_more h lt kb kl kt (elim w.then-ne.branch [
            | then-ne-via-then-ne v ↦ ladder_differs h lt kb kl kt c.ne.ensures v.if-ne.true
            | then-ne-via-else-ne+then-ne-2 v ↦ list_differs h lt kb kl kt v.ne-else-ne.ensures v.if-ne-2.true
          ]) w.put_timer-end.ensures.put w.put_timer-end.ensures.upper_bound)
      | else-ne+else-ne-2 w ↦
          rw (w.out-is, w.end-is) (timing_same h lt kb kl kt (neither_differs h lt kb kl kt c.ne.ensures w.if-ne.false w.ne-else-ne.ensures w.if-ne-2.false))
    ]

pub returns : goal.returns
returns c = timing_end c.loop-number.invariant c.requires.0 (omega arith)
