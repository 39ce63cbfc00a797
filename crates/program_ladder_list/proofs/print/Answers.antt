-- `program_ladder_list::print` is safe and ends: its output fits the buffer, by a theorem of its definition.
use native.Mathlib.Omega.{arith}
use mathlib.Core.Path.{sym}
use lib.Seq.{length-take-le}
use Rattle.program_definitions.specs.Printout.{most_output}
use Rattle.program_definitions.proofs.Theorems.{list_output_short}
use Rattle.program_definitions.proofs.Laws.Outcomes.{placed_within}
use Rattle.program_ladder_list.proofs.print.Goals as goal

pub slice_bounds-out-end : goal.slice_bounds-out-end
slice_bounds-out-end c =
    let within = c.finish-placed.ensures.1 most_output (omega arith) (placed_within _ most_output (list_output_short _ _) _ _ _ c.print-printed.ensures) in
    omega (arith, within, c.finish-placed.auto.out)

pub slice_bounds-write_output-end-2 : goal.slice_bounds-write_output-end-2
slice_bounds-write_output-end-2 c =
    let within = c.finish-placed.ensures.1 most_output (omega arith) (placed_within _ most_output (list_output_short _ _) _ _ _ c.print-printed.ensures) in
    sym (length-take-le _ _ (omega (arith, within, c.finish-placed.auto.out)))
