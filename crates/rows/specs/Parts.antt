-- What the functions inside this crate promise to each other. Nothing here is a sentence of document 01. Assumes nothing.
use Rattle.std.specs.Prelude.{ℕ, List, ◌++◌, map, length, take, drop, replicate}
use Rattle.rungs.specs.Records.{RungRecord, most_records, labels, offsets, fields_of}
use Rattle.rows.specs.declared.Rows.{Rows}

-- ---- a row taken apart

-- as many numbers as have room, the rest stays 0
unfoldable pub over_zeros : List ℕ → List ℕ
over_zeros xs = take most_records xs ++ drop (length xs) (replicate most_records 0)

unfoldable pub gathered : List RungRecord → Rows
gathered rs =
    record {
      labels = over_zeros (labels rs);
      offsets = over_zeros (offsets rs);
      lengths = over_zeros (map (λ (r : RungRecord). r.length) rs);
      n = length rs;
    }

-- and put together again: the first n of its records from the start; the rest stays
unfoldable pub scattered : ℕ → Rows → List RungRecord → List RungRecord
scattered n rows rs = take n (fields_of rows.labels rows.offsets rows.lengths) ++ drop n rs

-- the times of the first n records stored; the rest stays
unfoldable pub times_put : ℕ → List ℕ → List ℕ → List ℕ
times_put n times old = take n times ++ drop n old
