-- `program_scan_output::run` meets its contract: the three lines, the kept rest, and what `report_rest` does. Assumes nothing.
use mathlib.Core.Path.{refl, sym}
use native.Mathlib.Omega.{arith}
use lib.Seq.{length-take-le}
use Rattle.program_scan_lines.proofs.Lines.{bytes_room}
use Rattle.program_definitions.proofs.Laws.Outcomes.{same_done}
use Rattle.program_scan_output.proofs.Runs.{run_same}
use Rattle.program_scan_output.proofs.run.Goals as goal

pub slice_bounds-table-end : goal.slice_bounds-table-end
slice_bounds-table-end c = omega (arith, bytes_room _ _ _ c.table_bytes-bytes.ensures, c.take_variables-third.auto.table)

pub slice_bounds-report_rest-end : goal.slice_bounds-report_rest-end
slice_bounds-report_rest-end c = sym (length-take-le _ _ (omega (arith, bytes_room _ _ _ c.table_bytes-bytes.ensures, c.take_variables-third.auto.table)))

pub returns : goal.returns
returns c =
    same_done _ _ _ (run_same _ _ _ _ _ _ _ _ _ _ c.take_number-first.ensures c.variables-vars.ensures c.take_number-second.ensures
    c.watchdog.ensures c.take_variables-third.ensures refl c.table_bytes-bytes.ensures c.kept_end-to.ensures)
    c.report_rest.ensures.0
