-- `program_scan_report::put_report` meets its contract: the ends, the rungs that were entered, the variables and the timers that changed, those that no contact
-- reads, and the verdict. Assumes nothing.
-- where the ends end
use native.Mathlib.Omega.{arith}
use Rattle.printing.proofs.Laws.Puts.{put_then}
use Rattle.program_definitions.specs.Scanout.{report_of}
use Rattle.program_scan_report.proofs.Printing.{changed_reach, verdict_put}
use Rattle.program_scan_report.proofs.Rungs.{rungs_reach}
use Rattle.program_scan_report.proofs.put_report.Goals as goal

pub put_rungs-rungs-requires : goal.put_rungs-rungs-requires
put_rungs-rungs-requires c =
    (c.put_ends-head.ensures.upper_bound, c.requires.1.0)

pub put_variables-changed-requires : goal.put_variables-changed-requires
put_variables-changed-requires c =
    let h2 = rungs_reach c.args.labels.now c.args.times.now c.put_rungs-rungs.ensures c.requires.1.0 c.put_ends-head.ensures.upper_bound
    (λ k. omega (arith, c.type_inv.labels k)) (λ k. omega (arith, c.type_inv.times k)) in
    (h2, c.requires.0)

pub put_timers-timed-requires : goal.put_timers-timed-requires
put_timers-timed-requires c =
    let h2 = rungs_reach c.args.labels.now c.args.times.now c.put_rungs-rungs.ensures c.requires.1.0 c.put_ends-head.ensures.upper_bound
    (λ k. omega (arith, c.type_inv.labels k)) (λ k. omega (arith, c.type_inv.times k)) in
    let h3 = changed_reach c.args.vars c.args.before.now c.args.ladder_left.now c.args.list_left.now c.put_variables-changed.ensures c.requires.0 h2
    (λ k. omega (arith, c.type_inv.before k)) (λ k. omega (arith, c.type_inv.ladder_left k)) (λ k. omega (arith, c.type_inv.list_left k)) in
    (h3, c.requires.1.1)

pub put_unread-unread-requires : goal.put_unread-unread-requires
put_unread-unread-requires c = (c.put_timers-timed.ensures.1, c.requires.0)

pub put_verdict-requires : goal.put_verdict-requires
put_verdict-requires c = omega (arith, c.put_unread-unread.ensures.1)

pub returns : goal.returns
unfolding report_of
returns c =
    put_then c.put_ends-head.ensures.put (put_then c.put_rungs-rungs.ensures
    (put_then c.put_variables-changed.ensures (put_then c.put_timers-timed.ensures.0 (put_then c.put_unread-unread.ensures.0
    (verdict_put _ _ c.verdict_of-verdict.ensures c.put_verdict.ensures)))))
