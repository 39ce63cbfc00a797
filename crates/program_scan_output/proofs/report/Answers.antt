-- `program_scan_output::report` meets its contract: by Read's answer, the refusal, or what the kept ladder comes to. Assumes nothing.
use native.Mathlib.Omega.{arith}
use Rattle.std.proofs.Common.{rules}
use mathlib.Core.Path.{sym}
use lib.Seq.{length-take-le}
use Rattle.questions.proofs.Laws.Answers.{err_passed}
use Rattle.program_definitions.proofs.Laws.Outcomes.{refusal_done, same_done}
use Rattle.program_scan_output.proofs.Scans.{read_room, read_refused_lem, read_kept, report_within}
use Rattle.program_scan_output.proofs.report.Goals as goal

pub returns-in_err-counts : goal.returns-in_err-counts
returns-in_err-counts c =
    rw (err_passed c.from_residual.ensures.1)
    (report_within _ _ _ c.args.timers.now _ _ _ _ _ (λ k. omega (arith, c.type_inv.timers k)) (omega (arith, c.ranges.tick))
    (refusal_done _ _ (read_refused_lem _ _ c.read.ensures.read _ _ _ _ _ c.in_err-counts.was)))

pub first-ladder-requires : goal.first-ladder-requires
first-ladder-requires c =
    let r = read_room _ _ c.read.ensures.read _ c.in_ok-counts.was in
    (omega (arith, r.0), (omega (arith, r.1), (omega (arith, r.1), omega (arith, r.1))))

pub slice_bounds-times-end : goal.slice_bounds-times-end
slice_bounds-times-end c = let r = read_room _ _ c.read.ensures.read _ c.in_ok-counts.was in omega (arith, r.1)

pub slice_bounds-report_kept-end : goal.slice_bounds-report_kept-end
slice_bounds-report_kept-end c = let r = read_room _ _ c.read.ensures.read _ c.in_ok-counts.was in sym (length-take-le _ _ (omega (arith, r.1)))

pub returns : goal.returns
returns c =
    report_within _ _ _ c.args.timers.now _ _ _ _ _ (λ k. omega (arith, c.type_inv.timers k)) (omega (arith, c.ranges.tick))
    (same_done _ _ _ (read_kept _ _ c.read.ensures.read _ _ _ _ _ c.in_ok-counts.was c.first-ladder.ensures (search rules) (search rules) (search rules)
    (search rules) (search rules)) c.report_kept.ensures)
