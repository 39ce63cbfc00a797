-- `program_list_output::print` meets its contract: by Read's answer, the refusal, or what the kept ladder prints. Assumes nothing.
use native.Mathlib.Omega.{arith}
use Rattle.std.proofs.Common.{rules}
use mathlib.Core.Path.{sym}
use lib.Seq.{length-take-le}
use Rattle.questions.proofs.Laws.Answers.{err_passed}
use Rattle.program_list_output.proofs.Prints.{read_refused_lem, read_room, read_kept}
use Rattle.program_list_output.proofs.print.Goals as goal

pub returns-in_err-counts : goal.returns-in_err-counts
returns-in_err-counts c = rw (err_passed c.from_residual.ensures.1) (read_refused_lem _ _ c.read.ensures.read _ c.in_err-counts.was _)

pub first-ladder-requires : goal.first-ladder-requires
first-ladder-requires c = let r = read_room _ _ c.read.ensures.read _ c.in_ok-counts.was in (omega (arith, r.0), (omega (arith, r.1), (omega (arith, r.1), omega (arith, r.1))))

pub slice_bounds-times-end : goal.slice_bounds-times-end
slice_bounds-times-end c = let r = read_room _ _ c.read.ensures.read _ c.in_ok-counts.was in omega (arith, r.1)

pub slice_bounds-print_kept-end : goal.slice_bounds-print_kept-end
slice_bounds-print_kept-end c = let r = read_room _ _ c.read.ensures.read _ c.in_ok-counts.was in sym (length-take-le _ _ (omega (arith, r.1)))

pub returns : goal.returns
returns c = read_kept _ _ c.read.ensures.read _ c.in_ok-counts.was c.first-ladder.ensures (search rules) (search rules) (search rules) (search rules) (search rules) _ _ _ c.print_kept.ensures
