-- `program_ladder_scan::print` is safe and ends: its output fits the buffer, as report_rest promises.
use native.Mathlib.Omega.{arith}
use mathlib.Core.Path.{sym}
use lib.Seq.{length-take-le}
use Rattle.program_definitions.specs.Scanout.{most_report}
use Rattle.program_ladder_scan.proofs.print.Goals as goal

pub slice_bounds-out-end : goal.slice_bounds-out-end
slice_bounds-out-end c =
    let within = c.finish-placed.ensures.1 most_report (omega arith) c.report_rest-printed.ensures.1 in
    omega (arith, within, c.finish-placed.auto.out)

pub slice_bounds-write_output-end-2 : goal.slice_bounds-write_output-end-2
slice_bounds-write_output-end-2 c =
    let within = c.finish-placed.ensures.1 most_report (omega arith) c.report_rest-printed.ensures.1 in
    sym (length-take-le _ _ (omega (arith, within, c.finish-placed.auto.out)))
