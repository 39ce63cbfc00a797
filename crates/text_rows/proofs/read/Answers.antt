-- `text_rows::read` meets its contract: Read's promise on a copy of the fields is the promise on the row.
use Rattle.std.proofs.Common.{length, arith}
use Rattle.questions.proofs.Laws.Answers.{err_passed}
use Rattle.rows.proofs.Laws.Records.{records_length, times_records}
use Rattle.rows.proofs.Laws.Written.{copied}
use Rattle.text_rows.proofs.Answers.{row_refused, rungs_few, row_kept}
use Rattle.text_rows.proofs.read.Goals as goal

pub scatter-requires : goal.scatter-requires
scatter-requires c =
    let l = copied c.min-room.result (length c.args.row.now) c.min-room.ensures in
    let few = rungs_few _ _ _ _ _ _ _ _ l l l l _ _ _ _ _ _ c.read_fields.ensures _ c.in_ok-counts.was in
    (few.0, omega (arith, few.1))

pub returns-in_err-counts : goal.returns-in_err-counts
returns-in_err-counts c =
    let l = copied c.min-room.result (length c.args.row.now) c.min-room.ensures in
    rw (err_passed c.from_residual.ensures.1) (row_refused _ _ _ _ _ _ _ _ l l l l _ _ _ _ _ _ c.read_fields.ensures _ c.in_err-counts.was _ _ (records_length _) (times_records _))

pub returns : goal.returns
returns c =
    let l = copied c.min-room.result (length c.args.row.now) c.min-room.ensures in
    let s = c.scatter.ensures in
    let new = c.read_fields.auto in
    row_kept _ _ _ _ _ _ _ _ l l l l _ _ _ _ _ _ c.read_fields.ensures _ c.in_ok-counts.was new.labels new.offsets new.lengths _ _ _ _ _ (records_length _) (times_records _) s.0 s.1
