-- `program_scan_output::report_rest` meets its contract: the tick, the timer records, the kept text, and what `report` does. Assumes nothing.
use mathlib.Core.Path.{refl, sym}
use native.Mathlib.Omega.{arith}
use lib.Seq.{length-take-le}
use Rattle.program_definitions.proofs.Laws.Outcomes.{same_done}
use Rattle.program_scan_output.proofs.Runs.{rest_same}
use Rattle.program_scan_output.proofs.report_rest.Goals as goal

pub slice_bounds-numbers-end : goal.slice_bounds-numbers-end
slice_bounds-numbers-end c = omega (arith, c.take_timers-records.ensures.room, c.take_timers-records.auto.numbers)

pub slice_bounds-report-end : goal.slice_bounds-report-end
slice_bounds-report-end c = sym (length-take-le _ _ (omega (arith, c.take_timers-records.ensures.room, c.take_timers-records.auto.numbers)))

pub returns : goal.returns
returns c =
    let r = c.report.ensures in
    (same_done _ _ _ (rest_same _ _ _ _ _ _ c.take_now-clock.ensures c.take_timers-records.ensures refl c.kept_end-to.ensures _ _ _) r.0, r.1)
