-- `ladder_rows::ask` meets its contract: a row of more than 256 records is refused, and else the slices hold the row.
use Rattle.std.proofs.Common.{◌≤◌, length, take, replicate, sym, ◌∙◌, arith, length-take-le}
use Rattle.questions.specs.Refusals.{verdict_answer}
use Rattle.rungs.specs.Records.{most_records}
use Rattle.rows.specs.Rows.{records_of}
use Rattle.rows.proofs.Laws.Records.{records_length}
use Rattle.rows.proofs.Laws.Gathered.{slices_row}
use Rattle.ladder_rows.proofs.ask.Goals as goal

pub returns-then-row-gt-MOST_RECORDS : goal.returns-then-row-gt-MOST_RECORDS
unfolding verdict_answer
returns-then-row-gt-MOST_RECORDS c =
    let n = records_length c.args.row.now in
    sym (c.long_scan_refusal.ensures.same c.args.words.now (records_of c.args.row.now) c.args.table.now c.args.watchdog (omega arith) c.long_holds-holds.ensures)

pub returns : goal.returns
returns c =
    let n = records_length c.args.row.now in
    let s = c.slices.ensures in
    let lent : length c.args.row.now ≤ most_records = omega arith in
    let row = slices_row c.gather-rows.result (records_of c.args.row.now) _ _ _ (take (length c.args.row.now) (replicate 256 0))
    c.gather-rows.ensures.fields (omega arith) s.labels s.offsets s.lengths (length-take-le _ _ (omega arith) ∙ sym n) in
    (rw (s.words, row) at c.scan_questions.ensures)
