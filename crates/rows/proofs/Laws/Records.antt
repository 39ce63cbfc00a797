-- A row of structs, its records and its times have the same length, and a row and its records the same i-th one. Assumes nothing.
use Rattle.std.specs.Prelude.{◌≡◌, ℕ, List, length, get_or}
use Rattle.std.proofs.Common.{ap, sym, ◌∙◌}
use Rattle.std.proofs.lemmas.List.{length-map}
use Rattle.std.proofs.Math.ListN.{get_or-map}
use Rattle.rungs.specs.Records.{RungRecord, labels}
use Rattle.rows.specs.declared.Rung.{Rung}
use Rattle.rows.specs.Rows.{record_of, records_of, times_of, no_record, record_at, no_rung, rung_at}

pub records_length : (row : List Rung) → length (records_of row) ≡ length row
records_length row = length-map row record_of

pub records_at : (row : List Rung) (i : ℕ) → record_at (records_of row) i ≡ record_of (rung_at row i)
records_at row i = get_or-map record_of row i no_rung

pub labels_at : (row : List Rung) (i : ℕ) → get_or (labels (records_of row)) i 0 ≡ (rung_at row i).label
labels_at row i = get_or-map (λ (r : RungRecord). r.label) (records_of row) i no_record ∙ ap (λ (r : RungRecord). r.label) (records_at row i)

pub labels_length : (row : List Rung) → length (labels (records_of row)) ≡ length row
labels_length row = length-map (records_of row) (λ (r : RungRecord). r.label) ∙ records_length row

pub times_length : (row : List Rung) → length (times_of row) ≡ length row
times_length row = length-map row (λ (r : Rung). r.times)

pub times_records : (row : List Rung) → length (times_of row) ≡ length (records_of row)
times_records row = times_length row ∙ sym (records_length row)
