-- Laws of the times of a row stored record by record. Assumes nothing.
use Prim.Native.Nat.{ℕ, zero, suc, ◌+◌, ◌≤◌, ◌<◌}
use native.Mathlib.Numerals.{add-one}
use native.Mathlib.Omega.{arith}
use mathlib.Core.Path.{◌≡◌, refl, ap, sym, ◌∙◌}
use mathlib.Core.List.{List, [], ◌∷◌}
use lib.ListN.{length, get_or, set}
use Rattle.rungs.specs.Records.{RungRecord}
use Rattle.rows.specs.declared.Rung.{Rung}
use Rattle.rows.specs.Rows.{record_of, records_of, times_of, rung_at}
use Rattle.rows.specs.Parts.{times_put}

-- a record with another time
abbrev pub timed : Rung → ℕ → Rung
timed r t = record { label = r.label; offset = r.offset; length = r.length; times = t }

-- the row once the times of i records are stored
unfoldable pub timed_to : ℕ → List ℕ → List Rung → List Rung
timed_to zero ts row = row
timed_to (suc i) [] row = row
timed_to (suc i) (t ∷ ts) [] = []
timed_to (suc i) (t ∷ ts) (r ∷ row) = timed r t ∷ timed_to i ts row

pub timed_start_lem : (ts : List ℕ) (row : List Rung) → row ≡ timed_to 0 ts row
unfolding timed_to
timed_start_lem ts row = refl

one_more : (i : ℕ) (ts : List ℕ) (row : List Rung) → i < length ts → i < length row → set (timed_to i ts row) i (timed (rung_at (timed_to i ts row) i) (get_or ts i 0)) ≡ timed_to (suc i) ts row
unfolding timed_to
one_more i [] row h k = absurd (omega arith)
one_more i (t ∷ ts) [] h k = absurd (omega arith)
one_more zero (t ∷ ts) (r ∷ row) h k = refl
one_more (suc i) (t ∷ ts) (r ∷ row) h k = ap (λ (l : List Rung). timed r t ∷ l) (one_more i ts row (omega arith) (omega arith))

pub timed_next : (i : ℕ) (ts : List ℕ) (row : List Rung) → i < length ts → i < length row → set (timed_to i ts row) i (timed (rung_at (timed_to i ts row) i) (get_or ts i 0)) ≡ timed_to (i + 1) ts row
timed_next i ts row h k = one_more i ts row h k ∙ ap (λ (z : ℕ). timed_to z ts row) (sym (add-one i))

pub timed_length : (i : ℕ) (ts : List ℕ) (row : List Rung) → length (timed_to i ts row) ≡ length row
unfolding timed_to
timed_length zero ts row = refl
timed_length (suc i) [] row = refl
timed_length (suc i) (t ∷ ts) [] = refl
timed_length (suc i) (t ∷ ts) (r ∷ row) = ap suc (timed_length i ts row)

pub timed_records : (i : ℕ) (ts : List ℕ) (row : List Rung) → records_of (timed_to i ts row) ≡ records_of row
unfolding timed_to
timed_records zero ts row = refl
timed_records (suc i) [] row = refl
timed_records (suc i) (t ∷ ts) [] = refl
timed_records (suc i) (t ∷ ts) (r ∷ row) = ap (λ (l : List RungRecord). record_of r ∷ l) (timed_records i ts row)

pub timed_times : (n : ℕ) (ts : List ℕ) (row : List Rung) → n ≤ length ts → n ≤ length row → times_of (timed_to n ts row) ≡ times_put n ts (times_of row)
unfolding timed_to times_put
timed_times zero ts row h k = refl
timed_times (suc n) [] row h k = absurd (omega arith)
timed_times (suc n) (t ∷ ts) [] h k = absurd (omega arith)
timed_times (suc n) (t ∷ ts) (r ∷ row) h k = ap (λ (l : List ℕ). t ∷ l) (timed_times n ts row (omega arith) (omega arith))
