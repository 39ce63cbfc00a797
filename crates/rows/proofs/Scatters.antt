-- Laws of a row put together from arrays, record by record. Assumes nothing.
use Prim.Native.Nat.{ℕ, zero, suc, ◌+◌, ◌≤◌, ◌<◌}
use native.Mathlib.Numerals.{add-one}
use native.Mathlib.Omega.{arith}
use mathlib.Core.Path.{◌≡◌, refl, ap, sym, ◌∙◌}
use mathlib.Core.List.{List, [], ◌∷◌, ◌++◌, map}
use lib.ListN.{length, get_or, set, take, drop, length-map, get_or-map}
use lib.Seq.{drop-cons, length_front, length-take-le}
use Rattle.rungs.specs.Records.{RungRecord, fields_of, most_records, none_entered}
use Rattle.rungs.specs.Buffers.{written}
use Rattle.rungs.proofs.Laws.Rows.{Even, row_length, row_at}
use Rattle.rows.specs.declared.Rung.{Rung}
use Rattle.rows.specs.declared.Rows.{Rows}
use Rattle.rows.specs.Rows.{records_of, times_of, no_record, no_rung}
use Rattle.rows.specs.Parts.{scattered}
use Rattle.rows.proofs.Gathers.{laid_more}

-- the struct of a record, never entered
abbrev rung_of : RungRecord → Rung
rung_of r = record { label = r.label; offset = r.offset; length = r.length; times = 0 }

-- the struct made of the arrays at a place
abbrev rung_in : List ℕ → List ℕ → List ℕ → ℕ → Rung
rung_in labels offsets lengths i = record { label = get_or labels i 0; offset = get_or offsets i 0; length = get_or lengths i 0; times = 0 }

-- arrays as long as their type says
pub record Full (rows : Rows) : Type 0 where
  pub labels : length rows.labels ≡ most_records
  pub offsets : length rows.offsets ≡ most_records
  pub lengths : length rows.lengths ≡ most_records

abbrev records_in : Rows → List RungRecord
records_in rows = fields_of rows.labels rows.offsets rows.lengths

-- the row once i records are stored
unfoldable pub scattered_to : ℕ → Rows → List Rung → List Rung
scattered_to i rows row = take i (map rung_of (records_in rows)) ++ drop i row

pub scattered_start : (rows : Rows) (row : List Rung) → row ≡ scattered_to 0 rows row
unfolding scattered_to
scattered_start rows row = refl

records_laid_lem : (n : ℕ) (rs : List RungRecord) (row : List Rung) → n ≤ length rs → n ≤ length row → records_of (take n (map rung_of rs) ++ drop n row) ≡ take n rs ++ drop n (records_of row)
records_laid_lem zero rs row h k = refl
records_laid_lem (suc n) [] row h k = absurd (omega arith)
records_laid_lem (suc n) (r ∷ rs) [] h k = absurd (omega arith)
records_laid_lem (suc n) (r ∷ rs) (s ∷ row) h k = ap (λ (l : List RungRecord). r ∷ l) (records_laid_lem n rs row (omega arith) (omega arith))

times_laid : (n : ℕ) (rs : List RungRecord) (row : List Rung) → n ≤ length rs → n ≤ length row → times_of (take n (map rung_of rs) ++ drop n row) ≡ written (none_entered n) (times_of row)
unfolding written
times_laid zero rs row h k = refl
times_laid (suc n) [] row h k = absurd (omega arith)
times_laid (suc n) (r ∷ rs) [] h k = absurd (omega arith)
times_laid (suc n) (r ∷ rs) (s ∷ row) h k = ap (λ (l : List ℕ). 0 ∷ l) (times_laid n rs row (omega arith) (omega arith))

module _ (rows : Rows) (full : Full rows) where
  even : Even rows.labels rows.offsets rows.lengths
  even = record { first = full.labels ∙ sym full.offsets; second = full.offsets ∙ sym full.lengths }

  records_in_lem : length (records_in rows) ≡ most_records
  records_in_lem = row_length rows.labels rows.offsets rows.lengths even ∙ full.labels

  rungs_in_lem : length (map rung_of (records_in rows)) ≡ most_records
  rungs_in_lem = length-map (records_in rows) rung_of ∙ records_in_lem

  rung_in_lem : (i : ℕ) → i < most_records → rung_in rows.labels rows.offsets rows.lengths i ≡ get_or (map rung_of (records_in rows)) i no_rung
  rung_in_lem i h =
      let p = records_in_lem in
      let q = full.labels in
      sym (get_or-map rung_of (records_in rows) i no_record
      ∙ ap (λ (l : List RungRecord). rung_of (get_or l 0 no_record))
      (sym (drop-cons (records_in rows) i no_record (omega (arith, p))) ∙ row_at rows.labels rows.offsets rows.lengths even i (omega (arith, q))))

  pub scattered_next : (i : ℕ) (row : List Rung) → i < most_records → i < length row → set (scattered_to i rows row) i (rung_in rows.labels rows.offsets rows.lengths i) ≡ scattered_to (i + 1) rows row
  unfolding scattered_to
  scattered_next i row h k =
      let p = rungs_in_lem in
      ap (λ (z : Rung). set (take i (map rung_of (records_in rows)) ++ drop i row) i z) (rung_in_lem i h)
      ∙ laid_more (map rung_of (records_in rows)) row i no_rung (omega (arith, p)) k
      ∙ ap (λ (z : ℕ). take z (map rung_of (records_in rows)) ++ drop z row) (sym (add-one i))

  pub scattered_length : (i : ℕ) (row : List Rung) → i ≤ most_records → i ≤ length row → length (scattered_to i rows row) ≡ length row
  unfolding scattered_to
  scattered_length i row h k =
      let p = rungs_in_lem in
      length_front row (take i (map rung_of (records_in rows))) i (length-take-le i (map rung_of (records_in rows)) (omega (arith, p)) ∙ sym (length-take-le i row k))

  pub scattered_all : (n : ℕ) (row : List Rung) → n ≤ most_records → n ≤ length row → records_of (scattered_to n rows row) ≡ scattered n rows (records_of row)
  unfolding scattered_to scattered
  scattered_all n row h k = let p = records_in_lem in records_laid_lem n (records_in rows) row (omega (arith, p)) k

  pub scattered_times : (n : ℕ) (row : List Rung) → n ≤ most_records → n ≤ length row → times_of (scattered_to n rows row) ≡ written (none_entered n) (times_of row)
  unfolding scattered_to
  scattered_times n row h k = let p = records_in_lem in times_laid n (records_in rows) row (omega (arith, p)) k
