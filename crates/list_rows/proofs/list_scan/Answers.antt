-- `list_rows::list_scan` meets its contract: too many records are refused, and else the slices hold the row, and as many times are stored as the scan has set.
use Rattle.std.proofs.Common.{◌≡◌, refl, length, take, replicate, sym, ◌∙◌, arith, length-take-le}
use Rattle.questions.proofs.Laws.Answers.{err_passed}
use Rattle.rows.specs.Rows.{records_of}
use Rattle.rows.proofs.Laws.Records.{records_length, times_length}
use Rattle.rows.proofs.Laws.Gathered.{slices_row}
use Rattle.list.proofs.Answers.{scan_refused}
use Rattle.list_rows.proofs.Answers.{refused_times, set_times, all_stored}
use Rattle.list_rows.proofs.list_scan.Goals as goal

pub returns-then-n-gt-MOST_RECORDS : goal.returns-then-n-gt-MOST_RECORDS
returns-then-n-gt-MOST_RECORDS c =
    let n = records_length c.args.row.now in
    (scan_refused _ _ _ _ _ _ _ _ _ (c.long_scan_refusal.ensures.same _ _ _ _ (omega arith)), refl)

pub returns-in_err-halt : goal.returns-in_err-halt
returns-in_err-halt c =
    let n = records_length c.args.row.now in
    let s = c.slices.ensures in
    let row = slices_row c.gather-rows.result (records_of c.args.row.now) _ _ _ (take (length c.args.row.now) (replicate 256 0))
    c.gather-rows.ensures.fields (omega arith) s.labels s.offsets s.lengths (length-take-le _ _ (omega arith) ∙ sym n) in
    (rw (err_passed c.from_residual.ensures.1) (refused_times _ _ _ _ _ _ _ _ _ _ _ _ _ (rw (s.words, row, c.in_err-halt.was) at c.list_scan_packed.ensures)), refl)

pub returns : goal.returns
returns c =
    let n = records_length c.args.row.now in
    let s = c.slices.ensures in
    let zs = take (length c.args.row.now) (replicate 256 0) in
    let lent : length zs ≡ length c.args.row.now = length-take-le _ _ (omega arith) in
    let row = slices_row c.gather-rows.result (records_of c.args.row.now) _ _ _ zs
    c.gather-rows.ensures.fields (omega arith) s.labels s.offsets s.lengths (lent ∙ sym n) in
    let put = c.put_times.ensures in (
      set_times _ _ _ _ _ _ _ _ _ _ _ _ _ _ (rw (s.words, row, c.in_ok-halt.was) at c.list_scan_packed.ensures)
          (put.1 ∙ all_stored (length c.args.row.now) c.list_scan_packed.new.times _ _ (c.list_scan_packed.auto.times ∙ lent) (times_length c.args.row.now)),
      put.0,
    )
