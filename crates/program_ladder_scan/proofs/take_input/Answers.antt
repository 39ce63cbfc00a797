-- `program_ladder_scan::take_input` meets its contract: no more of the table is lent than it holds. Assumes nothing.
use native.Mathlib.Omega.{arith}
use Rattle.program_scan_lines.proofs.Lines.{bytes_room}
use Rattle.program_ladder_scan.proofs.take_input.Goals as goal

pub returns : goal.returns
returns c = (bytes_room _ _ _ c.table_bytes.ensures, c.in_ok-kept.ensures)
