-- `program_scan_output::report_kept` meets its contract: by the answer of both scans on lent tables and timer records of zeros, the refusal or the report.
-- Assumes nothing.
use Prim.Native.Nat.{ℕ, ◌≤◌, min}
use native.Mathlib.Omega.{arith}
use mathlib.Core.Path.{◌≡◌, sym, ◌∙◌}
use mathlib.Core.List.{List}
use lib.ListN.{length, take}
use lib.Seq.{length-take-le}
use Rattle.questions.proofs.Laws.Answers.{err_passed}
use Rattle.program_definitions.proofs.Laws.Outcomes.{text_done, refusal_done}
use Rattle.program_scan_output.proofs.Scans.{zeros, zeros_long, back_same, Copies}
use Rattle.program_scan_output.proofs.Scans.{scans_vars, scans_timers, scans_room, scans_refused_lem, scans_reported}
use Rattle.program_scan_output.proofs.report_kept.Goals as goal

-- the copies of the table and of the timer records that are lent
fits : (x n most : ℕ) → x ≡ min n most → x ≤ length (zeros most)
fits x n most e = omega (arith, e, zeros_long most)

copied : (table timers : List ℕ) (n k : ℕ) → n ≡ min (length table) 1056 → k ≡ min (length timers) 165
    → Copies table timers (take n (zeros 1056)) (take n (zeros 1056)) (take k (zeros 165)) (take k (zeros 165))
copied table timers n k e f =
    let t = length-take-le n (zeros 1056) (fits _ _ _ e) ∙ e in
    let r = length-take-le k (zeros 165) (fits _ _ _ f) ∙ f in
    record { ladder_table_lem = t; list_table_lem = t; ladder_timers_lem = r; list_timers_lem = r }

pub slice_bounds-labels-end : goal.slice_bounds-labels-end
slice_bounds-labels-end c =
    let few = scans_room _ _ _ _ _ _ _ _ _ _ (copied _ _ _ _ c.min-n.ensures c.min-k.ensures) c.scan_copies.ensures _ c.in_ok-ends.was in
    omega (arith, few, c.scan_copies.auto.labels)

pub slice_bounds-put_report-end-5 : goal.slice_bounds-put_report-end-5
slice_bounds-put_report-end-5 c =
    let few = scans_room _ _ _ _ _ _ _ _ _ _ (copied _ _ _ _ c.min-n.ensures c.min-k.ensures) c.scan_copies.ensures _ c.in_ok-ends.was in
    sym (length-take-le _ _ (omega (arith, few, c.scan_copies.auto.labels)))

pub slice_bounds-list_times-end : goal.slice_bounds-list_times-end
slice_bounds-list_times-end c =
    let few = scans_room _ _ _ _ _ _ _ _ _ _ (copied _ _ _ _ c.min-n.ensures c.min-k.ensures) c.scan_copies.ensures _ c.in_ok-ends.was in
    omega (arith, few, c.scan_copies.auto.list_times)

pub slice_bounds-put_report-end-6 : goal.slice_bounds-put_report-end-6
slice_bounds-put_report-end-6 c =
    let few = scans_room _ _ _ _ _ _ _ _ _ _ (copied _ _ _ _ c.min-n.ensures c.min-k.ensures) c.scan_copies.ensures _ c.in_ok-ends.was in
    sym (length-take-le _ _ (omega (arith, few, c.scan_copies.auto.list_times)))

pub put_report-requires : goal.put_report-requires
put_report-requires c =
    let few = scans_room _ _ _ _ _ _ _ _ _ _ (copied _ _ _ _ c.min-n.ensures c.min-k.ensures) c.scan_copies.ensures _ c.in_ok-ends.was in
    let long = length-take-le c.in_ok-ends.ends.counts.rungs c.scan_copies.new.labels (omega (arith, few, c.scan_copies.auto.labels)) in (
      scans_vars _ _ _ _ _ _ _ _ _ _ (copied _ _ _ _ c.min-n.ensures c.min-k.ensures) c.scan_copies.ensures _ c.in_ok-ends.was,
      (omega (arith, few, long), scans_timers _ _ _ _ _ _ _ _ _ _ (copied _ _ _ _ c.min-n.ensures c.min-k.ensures) c.scan_copies.ensures _ c.in_ok-ends.was),
    )

pub returns-in_err-ends : goal.returns-in_err-ends
returns-in_err-ends c =
    rw (err_passed c.from_residual.ensures.1)
    (refusal_done _ _ (scans_refused_lem _ _ _ _ _ _ _ _ _ _ (copied _ _ _ _ c.min-n.ensures c.min-k.ensures) c.scan_copies.ensures _ c.in_err-ends.was))

pub returns : goal.returns
returns c =
    let new = c.scan_copies.new in
    let auto = c.scan_copies.auto in
    let tf = fits _ _ _ c.min-n.ensures in
    let rf = fits _ _ _ c.min-k.ensures in
    text_done (scans_reported _ _ _ _ _ _ _ _ _ _ (copied _ _ _ _ c.min-n.ensures c.min-k.ensures) c.scan_copies.ensures _ c.in_ok-ends.was _ _ _ _
    (back_same new.ladder_table _ _ auto.ladder_table tf) (back_same new.list_table _ _ auto.list_table tf)
    (back_same new.ladder_timers _ _ auto.ladder_timers rf) (back_same new.list_timers _ _ auto.list_timers rf))
    c.put_report.ensures
