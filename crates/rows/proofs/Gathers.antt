-- Laws of a row taken apart record by record. Assumes nothing.
use Prim.Native.Nat.{ℕ, zero, suc, ◌+◌, ◌<◌, min}
use native.Mathlib.Numerals.{add-one}
use native.Mathlib.Omega.{arith}
use mathlib.Core.Path.{◌≡◌, refl, ap, sym, ◌∙◌}
use mathlib.Core.List.{List, [], ◌∷◌, ◌++◌, map}
use lib.ListN.{length, get_or, set, take, drop, replicate, length-take, length-replicate, length-map, get_or-map}
use Rattle.rungs.specs.Records.{RungRecord, most_records}
use Rattle.rows.specs.declared.Rung.{Rung}
use Rattle.rows.specs.Rows.{record_of, records_of, no_record, rung_at}
use Rattle.rows.specs.declared.Rows.{Rows}
use Rattle.rows.specs.Parts.{over_zeros, gathered}
use Rattle.rows.proofs.Laws.Records.{records_length, records_at}

abbrev pub zeros : List ℕ
zeros = replicate most_records 0

-- ---- one list laid over another

pub laid_more : {A : Type 0} (xs ys : List A) (i : ℕ) (d : A) → i < length xs → i < length ys
    → set (take i xs ++ drop i ys) i (get_or xs i d) ≡ take (suc i) xs ++ drop (suc i) ys
laid_more [] ys i d h k = absurd (omega arith)
laid_more (x ∷ xs) [] i d h k = absurd (omega arith)
laid_more (x ∷ xs) (y ∷ ys) zero d h k = refl
laid_more {A} (x ∷ xs) (y ∷ ys) (suc i) d h k = ap (λ (l : List A). x ∷ l) (laid_more xs ys i d (omega arith) (omega arith))

laid_whole_lem : (m : ℕ) (xs : List ℕ) → take (length (take m xs)) xs ++ drop (length (take m xs)) (replicate m 0) ≡ take m xs ++ drop (length xs) (replicate m 0)
laid_whole_lem zero [] = refl
laid_whole_lem zero (x ∷ xs) = refl
laid_whole_lem (suc m) [] = refl
laid_whole_lem (suc m) (x ∷ xs) = ap (λ (l : List ℕ). x ∷ l) (laid_whole_lem m xs)

-- ---- one field of the first i records, over zeros

unfoldable pub fields_to : (RungRecord → ℕ) → ℕ → List Rung → List ℕ
fields_to f i row = take i (map f (records_of row)) ++ drop i zeros

module _ (f : RungRecord → ℕ) (row : List Rung) where
  fields_length : length (map f (records_of row)) ≡ length row
  fields_length = length-map (records_of row) f ∙ records_length row

  fields_at : (i : ℕ) → f (record_of (rung_at row i)) ≡ get_or (map f (records_of row)) i (f no_record)
  fields_at i = sym (get_or-map f (records_of row) i no_record ∙ ap f (records_at row i))

  pub fields_start : zeros ≡ fields_to f 0 row
  unfolding fields_to
  fields_start = refl

  pub fields_next : (i : ℕ) → i < most_records → i < length row → set (fields_to f i row) i (f (record_of (rung_at row i))) ≡ fields_to f (i + 1) row
  unfolding fields_to
  fields_next i h k =
      let p = fields_length in
      let q = length-replicate {A = ℕ} most_records 0 in
      ap (λ (z : ℕ). set (take i (map f (records_of row)) ++ drop i zeros) i z) (fields_at i)
      ∙ laid_more (map f (records_of row)) zeros i (f no_record) (omega (arith, p)) (omega (arith, q))
      ∙ ap (λ (z : ℕ). take z (map f (records_of row)) ++ drop z zeros) (sym (add-one i))

  fields_all : (i : ℕ) → i ≡ min most_records (length row) → fields_to f i row ≡ over_zeros (map f (records_of row))
  unfolding fields_to over_zeros
  fields_all i e =
      ap (λ (z : ℕ). take z (map f (records_of row)) ++ drop z zeros) (e ∙ sym (length-take most_records (map f (records_of row)) ∙ ap (λ (z : ℕ). min most_records z) fields_length))
      ∙ laid_whole_lem most_records (map f (records_of row))

abbrev pub label_of : RungRecord → ℕ
label_of r = r.label

abbrev pub offset_of : RungRecord → ℕ
offset_of r = r.offset

abbrev pub length_of : RungRecord → ℕ
length_of r = r.length

abbrev rows_of : List ℕ → List ℕ → List ℕ → ℕ → Rows
rows_of ls os ns n = record { labels = ls; offsets = os; lengths = ns; n = n }

pub gathered_all : (row : List Rung) (i : ℕ) → i ≡ min most_records (length row) → rows_of (fields_to label_of i row) (fields_to offset_of i row) (fields_to length_of i row) (length row) ≡ gathered (records_of row)
unfolding gathered
gathered_all row i e = λ j. rows_of (fields_all label_of row i e j) (fields_all offset_of row i e j) (fields_all length_of row i e j) (sym (records_length row) j)
