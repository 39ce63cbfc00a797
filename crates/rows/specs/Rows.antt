-- A lent row of structs as rung records. Document 01, "The kept ladder": "Rung records lie side by side in one lent row: label (16 bits), offset and length
-- (32 bits each)." 02, Req 04: "The rung record gets a fourth field of 32 bits, the times entered." Assumes nothing.
use Rattle.std.specs.Prelude.{ℕ, List, map, get_or}
use Rattle.rungs.specs.Records.{RungRecord}
use Rattle.rows.specs.declared.Rung.{Rung}

abbrev pub record_of : Rung → RungRecord
record_of r = record { label = r.label; offset = r.offset; length = r.length }

abbrev pub records_of : List Rung → List RungRecord
records_of row = map record_of row

-- 02, Req 04, "the times entered", as a row of numbers beside the records
abbrev pub times_of : List Rung → List ℕ
times_of row = map (λ (r : Rung). r.times) row

-- the record past a row's end: no row has one there
abbrev pub no_record : RungRecord
no_record = record { label = 0; offset = 0; length = 0 }

-- the i-th record, from 0
abbrev pub record_at : List RungRecord → ℕ → RungRecord
record_at rs i = get_or rs i no_record

-- the struct past a row's end, and the i-th one, from 0
abbrev pub no_rung : Rung
no_rung = record { label = 0; offset = 0; length = 0; times = 0 }

abbrev pub rung_at : List Rung → ℕ → Rung
rung_at row i = get_or row i no_rung
