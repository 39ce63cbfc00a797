-- `translation_rows::translate` meets its contract: too many records are refused, and else Translate's promise on copies of the fields is the promise on the rows.
use Rattle.std.proofs.Common.{length, take, replicate, sym, ◌∙◌, arith, length-take-le}
use Rattle.questions.proofs.Laws.Answers.{err_passed}
use Rattle.rows.specs.Rows.{records_of}
use Rattle.rows.proofs.Laws.Records.{records_length, times_records}
use Rattle.rows.proofs.Laws.Gathered.{slices_row}
use Rattle.rows.proofs.Laws.Written.{copied}
use Rattle.translation_rows.proofs.Answers.{row_refused, rungs_few, row_written, long_refused}
use Rattle.translation_rows.proofs.translate.Goals as goal

pub returns-then-row-gt-MOST_RECORDS : goal.returns-then-row-gt-MOST_RECORDS
returns-then-row-gt-MOST_RECORDS c =
    let n = records_length c.args.row.now in
    long_refused _ _ _ _ _ _ _ _ (omega arith) c.long_refusal.ensures c.long_holds-holds.ensures

pub scatter-requires : goal.scatter-requires
scatter-requires c =
    let l = copied c.min-room.result (length c.args.code_row.now) c.min-room.ensures in
    rungs_few _ _ _ _ _ _ _ _ l l l l _ _ _ _ _ _ c.translate_fields.ensures _ c.in_ok-counts.was

pub returns-in_err-counts : goal.returns-in_err-counts
returns-in_err-counts c =
    let n = records_length c.args.row.now in
    let s = c.slices.ensures in
    let row = slices_row c.gather-rows.result (records_of c.args.row.now) _ _ _ (take (length c.args.row.now) (replicate 256 0))
    c.gather-rows.ensures.fields (omega arith) s.labels s.offsets s.lengths (length-take-le _ _ (omega arith) ∙ sym n) in
    let l = copied c.min-room.result (length c.args.code_row.now) c.min-room.ensures in
    rw (err_passed c.from_residual.ensures.1)
    (row_refused _ _ _ _ _ _ _ _ l l l l _ _ _ _ _ _ (rw (s.words, row) at c.translate_fields.ensures) _ c.in_err-counts.was _ _ (records_length _) (times_records _))

pub returns : goal.returns
returns c =
    let n = records_length c.args.row.now in
    let s = c.slices.ensures in
    let row = slices_row c.gather-rows.result (records_of c.args.row.now) _ _ _ (take (length c.args.row.now) (replicate 256 0))
    c.gather-rows.ensures.fields (omega arith) s.labels s.offsets s.lengths (length-take-le _ _ (omega arith) ∙ sym n) in
    let l = copied c.min-room.result (length c.args.code_row.now) c.min-room.ensures in
    let put = c.scatter.ensures in
    let new = c.translate_fields.auto in
    row_written _ _ _ _ _ _ _ _ l l l l _ _ _ _ _ _ (rw (s.words, row) at c.translate_fields.ensures) _ c.in_ok-counts.was
    new.labels new.offsets new.lengths _ _ _ _ _ (records_length _) (times_records _) put.0 put.1
