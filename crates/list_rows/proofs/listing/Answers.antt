-- `list_rows::listing` meets its contract: too many records are refused after question 14, and else the slices hold the row. Assumes nothing.
use Rattle.std.proofs.Common.{length, take, replicate, sym, ◌∙◌, arith, length-take-le}
use Rattle.rows.specs.Rows.{records_of}
use Rattle.rows.proofs.Laws.Records.{records_length}
use Rattle.rows.proofs.Laws.Gathered.{slices_row}
use Rattle.list_definitions.proofs.Laws.Refusing.{listing_unnamed, listing_refused_lem}
use Rattle.list_rows.proofs.listing.Goals as goal

pub returns-then-not-is_name_table : goal.returns-then-not-is_name_table
returns-then-not-is_name_table c = listing_unnamed _ _ _ _ _ (sym c.is_name_table.ensures ∙ c.if-not-is_name_table.true)

pub returns-then-row-gt-MOST_RECORDS : goal.returns-then-row-gt-MOST_RECORDS
returns-then-row-gt-MOST_RECORDS c =
    let n = records_length c.args.row.now in
    listing_refused_lem _ _ _ _ _ _ (sym c.is_name_table.ensures ∙ c.if-not-is_name_table.false) (c.long_refusal.ensures.same _ _ (omega arith))

pub returns : goal.returns
returns c =
    let n = records_length c.args.row.now in
    let s = c.slices.ensures in
    let row = slices_row c.gather-rows.result (records_of c.args.row.now) _ _ _ (take (length c.args.row.now) (replicate 256 0))
    c.gather-rows.ensures.fields (omega arith) s.labels s.offsets s.lengths (length-take-le _ _ (omega arith) ∙ sym n) in
    (rw (s.words, row) at c.listing.ensures)
