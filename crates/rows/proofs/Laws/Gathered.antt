-- The arrays of a row taken apart begin with its first 256 records; all of them, where it has no more. Assumes nothing.
use Rattle.std.specs.Prelude.{◌≡◌, ℕ, ◌≤◌, min, List, map, length, take, drop, replicate}
use Rattle.std.proofs.Common.{arith, sym, ap, ◌∙◌, length-take, take_at, take_all}
use Rattle.std.proofs.lemmas.List.{length-map}
use Rattle.questions.proofs.Laws.Maps.{take_map}
use Rattle.rungs.specs.Records.{RungRecord, labels, offsets, fields_of, row_of, most_records}
use Rattle.rungs.proofs.Laws.Rows.{row_back, row_fields}
use Rattle.rows.specs.Parts.{over_zeros, gathered}
use Rattle.rows.specs.declared.Rows.{Rows}

kept_fields : (f : RungRecord → ℕ) (rs : List RungRecord) → take (min most_records (length rs)) (over_zeros (map f rs)) ≡ map f (take most_records rs)
unfolding over_zeros
kept_fields f rs =
    take_at (take most_records (map f rs)) (drop (length (map f rs)) (replicate most_records 0)) (min most_records (length rs))
    (length-take most_records (map f rs) ∙ ap (λ (n : ℕ). min most_records n) (length-map rs f))
    ∙ take_map f most_records rs

-- the first of each array, as many as stand there, as one row
pub gathered_row : (rs : List RungRecord)
    → fields_of (take (min most_records (length rs)) (gathered rs).labels) (take (min most_records (length rs)) (gathered rs).offsets) (take (min most_records (length rs)) (gathered rs).lengths) ≡ take most_records rs
unfolding gathered
gathered_row rs =
    (λ j. fields_of (kept_fields (λ (r : RungRecord). r.label) rs j) (kept_fields (λ (r : RungRecord). r.offset) rs j) (kept_fields (λ (r : RungRecord). r.length) rs j))
    ∙ row_back (take most_records rs)

pub gathered_whole : (rs : List RungRecord) → length rs ≤ most_records
    → fields_of (take (min most_records (length rs)) (gathered rs).labels) (take (min most_records (length rs)) (gathered rs).offsets) (take (min most_records (length rs)) (gathered rs).lengths) ≡ rs
gathered_whole rs h = gathered_row rs ∙ take_all most_records rs h

-- the slices of a row of no more records, with as many times, are the row
whole_fields : (f : RungRecord → ℕ) (rs : List RungRecord) → length rs ≤ most_records → take (length rs) (over_zeros (map f rs)) ≡ map f rs
whole_fields f rs h =
    let n : length rs ≡ min most_records (length rs) = omega arith in
    ap (λ (k : ℕ). take k (over_zeros (map f rs))) n ∙ kept_fields f rs ∙ ap (map f) (take_all most_records rs h)

pub slices_row : (rows : Rows) (rs : List RungRecord) (ls os ns ts : List ℕ) → rows ≡ gathered rs → length rs ≤ most_records → ls ≡ take rows.n rows.labels
    → os ≡ take rows.n rows.offsets → ns ≡ take rows.n rows.lengths → length ts ≡ length rs → row_of ls os ns ts ≡ rs
unfolding gathered
slices_row rows rs ls os ns ts e h a b d n =
    let l : ls ≡ labels rs = a ∙ ap (λ (r : Rows). take r.n r.labels) e ∙ whole_fields (λ (r : RungRecord). r.label) rs h in
    let o : os ≡ offsets rs = b ∙ ap (λ (r : Rows). take r.n r.offsets) e ∙ whole_fields (λ (r : RungRecord). r.offset) rs h in
    let m : ns ≡ map (λ (r : RungRecord). r.length) rs = d ∙ ap (λ (r : Rows). take r.n r.lengths) e ∙ whole_fields (λ (r : RungRecord). r.length) rs h in
    row_fields ls os ns ts (ap length l ∙ length-map rs (λ (r : RungRecord). r.label) ∙ sym n) ∙ (λ i. fields_of (l i) (o i) (m i)) ∙ row_back rs
