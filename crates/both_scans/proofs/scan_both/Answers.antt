-- `both_scans::scan_both` meets its contract, from the promises of the questions, Translate and both scans. Assumes nothing.
use native.Mathlib.Omega.{arith}
use mathlib.Core.Path.{refl, sym, ◌∙◌}
use Rattle.questions.proofs.Laws.Answers.{err_passed}
use Rattle.both_parts.specs.Parts.{memory}
use Rattle.both_scans.proofs.Boths.{early_refused, written_fits, longest_few, rungs_few, room_refused, both_done}
use Rattle.both_scans.proofs.Asking.{asked_is}
use lib.Seq.{length-take-le}
use Rattle.both_scans.proofs.scan_both.Goals as goal

pub returns-in_err-both_answer-clause-both_scans_done : goal.returns-in_err-both_answer-clause-both_scans_done
returns-in_err-both_answer-clause-both_scans_done c = rw (err_passed c.from_residual.ensures.1) (early_refused _ _ _ _ _ _ _ _ _ (c.unwrap_or.ensures ∙ asked_is c.args.watchdog) _ c.both_answer.ensures _ c.in_err-both_answer.was)

pub returns-in_err-counts-clause-both_scans_done : goal.returns-in_err-counts-clause-both_scans_done
returns-in_err-counts-clause-both_scans_done c = rw (err_passed c.from_residual-in_err-counts.ensures.1) (room_refused _ _ _ _ _ _ _ _ _ (c.unwrap_or.ensures ∙ asked_is c.args.watchdog) _ c.both_answer.ensures c.in_ok-both_answer.was _ _ c.write_list.ensures _ c.in_err-counts.was)

pub slice_bounds-scan_written-end : goal.slice_bounds-scan_written-end
slice_bounds-scan_written-end c = omega (arith, (written_fits _ _ _ _ _ c.write_list.ensures _ c.in_ok-counts.was).0, c.write_list.auto.code)

pub slice_bounds-scan_written-end-2 : goal.slice_bounds-scan_written-end-2
slice_bounds-scan_written-end-2 c = sym (length-take-le _ _ (omega (arith, (written_fits _ _ _ _ _ c.write_list.ensures _ c.in_ok-counts.was).0, c.write_list.auto.code)))

pub slice_bounds-scan_written-end-3 : goal.slice_bounds-scan_written-end-3
slice_bounds-scan_written-end-3 c = omega (arith, (written_fits _ _ _ _ _ c.write_list.ensures _ c.in_ok-counts.was).1, c.write_list.auto.code_labels)

pub slice_bounds-scan_written-end-4 : goal.slice_bounds-scan_written-end-4
slice_bounds-scan_written-end-4 c = sym (length-take-le _ _ (omega (arith, (written_fits _ _ _ _ _ c.write_list.ensures _ c.in_ok-counts.was).1, c.write_list.auto.code_labels)))

pub slice_bounds-scan_written-end-5 : goal.slice_bounds-scan_written-end-5
slice_bounds-scan_written-end-5 c = omega (arith, (written_fits _ _ _ _ _ c.write_list.ensures _ c.in_ok-counts.was).2, c.write_list.auto.code_offsets)

pub slice_bounds-scan_written-end-6 : goal.slice_bounds-scan_written-end-6
slice_bounds-scan_written-end-6 c = sym (length-take-le _ _ (omega (arith, (written_fits _ _ _ _ _ c.write_list.ensures _ c.in_ok-counts.was).2, c.write_list.auto.code_offsets)))

pub slice_bounds-scan_written-end-7 : goal.slice_bounds-scan_written-end-7
slice_bounds-scan_written-end-7 c = omega (arith, (written_fits _ _ _ _ _ c.write_list.ensures _ c.in_ok-counts.was).3, c.write_list.auto.code_lengths)

pub slice_bounds-scan_written-end-8 : goal.slice_bounds-scan_written-end-8
slice_bounds-scan_written-end-8 c = sym (length-take-le _ _ (omega (arith, (written_fits _ _ _ _ _ c.write_list.ensures _ c.in_ok-counts.was).3, c.write_list.auto.code_lengths)))

pub slice_bounds-scan_written-end-9 : goal.slice_bounds-scan_written-end-9
slice_bounds-scan_written-end-9 c = omega (arith, (written_fits _ _ _ _ _ c.write_list.ensures _ c.in_ok-counts.was).4, c.write_list.auto.code_times)

pub slice_bounds-scan_written-end-10 : goal.slice_bounds-scan_written-end-10
slice_bounds-scan_written-end-10 c = sym (length-take-le _ _ (omega (arith, (written_fits _ _ _ _ _ c.write_list.ensures _ c.in_ok-counts.was).4, c.write_list.auto.code_times)))

pub scan_written-requires : goal.scan_written-requires
scan_written-requires c = (longest_few _ _ _ _ _ c.write_list.ensures _ c.in_ok-counts.was, rungs_few _ _ _ _ _ _ _ c.both_answer.ensures c.in_ok-both_answer.was)

pub returns-clause-both_scans_done : goal.returns-clause-both_scans_done
returns-clause-both_scans_done c = both_done _ _ _ _ _ _ _ _ _ (c.unwrap_or.ensures ∙ asked_is c.args.watchdog) _ c.both_answer.ensures c.in_ok-both_answer.was _ _ c.write_list.ensures _ c.in_ok-counts.was _ (memory _ _) (memory _ _) _ _ c.scan_written.ensures.run _ refl
