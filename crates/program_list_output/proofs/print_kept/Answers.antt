-- `program_list_output::print_kept` meets its contract: by Translate's answer, the refusal, or what the list prints. Assumes nothing.
use native.Mathlib.Omega.{arith}
use Rattle.std.proofs.Common.{rules}
use mathlib.Core.Path.{sym}
use lib.Seq.{length-take-le}
use Rattle.questions.proofs.Laws.Answers.{err_passed}
use Rattle.program_list_output.proofs.Prints.{kept_refused, kept_room, kept_listed}
use Rattle.program_list_output.proofs.print_kept.Goals as goal

pub returns-in_err-counts : goal.returns-in_err-counts
returns-in_err-counts c = rw (err_passed c.from_residual.ensures.1) (kept_refused _ _ c.translate.ensures.written _ c.in_err-counts.was _)

pub first-list-requires : goal.first-list-requires
first-list-requires c = let r = kept_room _ _ c.translate.ensures.written _ c.in_ok-counts.was in (omega (arith, r.0), (omega (arith, r.1), (omega (arith, r.1), omega (arith, r.1))))

pub slice_bounds-list_times-end : goal.slice_bounds-list_times-end
slice_bounds-list_times-end c = let r = kept_room _ _ c.translate.ensures.written _ c.in_ok-counts.was in omega (arith, r.1)

pub slice_bounds-print_list-end : goal.slice_bounds-print_list-end
slice_bounds-print_list-end c = let r = kept_room _ _ c.translate.ensures.written _ c.in_ok-counts.was in sym (length-take-le _ _ (omega (arith, r.1)))

pub returns : goal.returns
returns c = kept_listed _ _ c.translate.ensures.written _ c.in_ok-counts.was c.first-list.ensures (search rules) (search rules) (search rules) (search rules) (search rules) _ _ _ c.print_list.ensures
