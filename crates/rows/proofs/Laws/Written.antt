-- Records written from the start of a row of structs are those written into a copy of its fields. Assumes nothing.
use Rattle.std.specs.Prelude.{◌≡◌, refl, ℕ, ◌+◌, ◌≤◌, min, leb, length, take, drop, replicate}
use Rattle.std.proofs.Common.{ap, ◌∙◌, arith, le-leb, length-append, length-take-le}
use Rattle.std.proofs.Math.Path.{sym}
use Rattle.std.proofs.Math.Decide.{dec_le}
use Rattle.std.proofs.Math.Option.{none, some}
use mathlib.Core.List.{List, [], ◌∷◌, ◌++◌, map, map-append, append_assoc, append-nil}
use Rattle.std.proofs.lemmas.Bool.{lt-leb}
use Rattle.std.proofs.lemmas.List.{length-map, length-replicate}
use Rattle.std.proofs.Math.Seq.{take-append_seam, drop-length}
use Rattle.questions.proofs.Laws.Maps.{drop_map}
use Rattle.questions.specs.Questions.{Answer, first_no, long_enough, question13}
use Rattle.questions.proofs.Laws.Answers.{first_yes, later_yes}
use Rattle.rungs.specs.Records.{RungRecord, labels, offsets, fields_of, most_records, none_entered}
use Rattle.rungs.specs.Buffers.{Buffers, as_buffers, new_buffers, buffers, needs, written, written_over}
use Rattle.rungs.proofs.Laws.Rows.{Even, row_back, row_take}
use Rattle.rungs.proofs.Laws.Filling.{labels_count, roomy}
use Rattle.rows.specs.declared.Rows.{Rows}
use Rattle.rows.specs.Parts.{scattered, times_put}

abbrev lengths : List RungRecord → List ℕ
lengths rs = map (λ r. r.length) rs

-- ---- question 13

same_room : (m n l : ℕ) → m ≤ most_records → l ≡ min most_records n → leb m l ≡ leb m n
same_room m n l h e = go (dec_le m n)
  where
    go : Dec (m ≤ n) → leb m l ≡ leb m n
    go (yes p) = rw (le-leb m n p) (le-leb m l (omega (arith, e)))
    go (no p) = rw (lt-leb m n (omega arith)) (lt-leb m l (omega (arith, e)))

-- a copy with room for as many records as the row, or 256, has room where the row has
pub needs_same : (nw : List ℕ) (ks : List RungRecord) (ws : List ℕ) (rs : List RungRecord) (ts ls os ns zt : List ℕ) → length ks ≤ most_records → length ts ≡ length rs
    → length ls ≡ min most_records (length rs) → length os ≡ min most_records (length rs) → length ns ≡ min most_records (length rs) → length zt ≡ min most_records (length rs)
    → question13 (needs (new_buffers nw ks) (buffers ws ls os ns zt)) ≡ question13 (needs (new_buffers nw ks) (as_buffers ws rs ts))
unfolding question13 long_enough needs as_buffers
needs_same nw ks ws rs ts ls os ns zt h e a b c d = rw (
  length-map ks (λ (r : RungRecord). r.label),
  length-map ks (λ (r : RungRecord). r.offset),
  length-map ks (λ (r : RungRecord). r.length),
  length-replicate {A = ℕ} (length ks) 0,
  length-map rs (λ (r : RungRecord). r.label),
  length-map rs (λ (r : RungRecord). r.offset),
  length-map rs (λ (r : RungRecord). r.length),
  e,
  same_room (length ks) (length rs) (length ls) h a,
  same_room (length ks) (length rs) (length os) h b,
  same_room (length ks) (length rs) (length ns) h c,
  same_room (length ks) (length rs) (length zt) h d,
) refl

-- and so the first "no" is the same, where the questions before it let only 256 records pass
pub asked_same : (before : Answer) (nw : List ℕ) (ks : List RungRecord) (ws : List ℕ) (rs : List RungRecord) (ts ls os ns zt : List ℕ) → (before ≡ none → length ks ≤ most_records) → length ts ≡ length rs
    → length ls ≡ min most_records (length rs) → length os ≡ min most_records (length rs) → length ns ≡ min most_records (length rs) → length zt ≡ min most_records (length rs)
    → first_no (before ∷ question13 (needs (new_buffers nw ks) (buffers ws ls os ns zt)) ∷ []) ≡ first_no (before ∷ question13 (needs (new_buffers nw ks) (as_buffers ws rs ts)) ∷ [])
unfolding first_no
asked_same (some x) nw ks ws rs ts ls os ns zt h e a b c d = refl
asked_same none nw ks ws rs ts ls os ns zt h e a b c d = ap (λ (q : Answer). first_no (q ∷ [])) (needs_same nw ks ws rs ts ls os ns zt (h refl) e a b c d)

-- ---- what is written

pub scattered_none : (rows : Rows) (rs : List RungRecord) → scattered 0 rows rs ≡ rs
unfolding scattered
scattered_none rows rs = refl

pub none_written : (ts : List ℕ) → written (none_entered 0) ts ≡ ts
unfolding written
none_written ts = refl

-- a copy whose fields begin with those of some records
pub record Begins (rows : Rows) (ks : List RungRecord) : Type 0 where
  pub even : Even rows.labels rows.offsets rows.lengths
  pub first_labels : take (length ks) rows.labels ≡ labels ks
  pub first_offsets : take (length ks) rows.offsets ≡ offsets ks
  pub first_lengths : take (length ks) rows.lengths ≡ lengths ks

pub scattered_begins : (rows : Rows) (ks rs : List RungRecord) → Begins rows ks → scattered (length ks) rows rs ≡ ks ++ drop (length ks) rs
unfolding scattered
scattered_begins rows ks rs b =
    ap (λ (l : List RungRecord). l ++ drop (length ks) rs)
    (row_take rows.labels rows.offsets rows.lengths b.even (length ks)
    ∙ (λ i. fields_of (b.first_labels i) (b.first_offsets i) (b.first_lengths i))
    ∙ row_back ks)

written_field : (f : RungRecord → ℕ) (ks rs : List RungRecord) → map f (ks ++ drop (length ks) rs) ≡ written (map f ks) (map f rs)
unfolding written
written_field f ks rs = map-append f ks (drop (length ks) rs) ∙ ap (λ (l : List ℕ). map f ks ++ l) (sym (drop_map f (length ks) rs) ∙ ap (λ (n : ℕ). drop n (map f rs)) (sym (length-map ks f)))

pub written_row : (nw ws : List ℕ) (ks rs : List RungRecord) (ts : List ℕ)
    → as_buffers (written nw ws) (ks ++ drop (length ks) rs) (written (none_entered (length ks)) ts) ≡ written_over (new_buffers nw ks) (as_buffers ws rs ts)
unfolding as_buffers written_over
written_row nw ws ks rs ts i = record {
  words = written nw ws;
  labels = written_field (λ (r : RungRecord). r.label) ks rs i;
  offsets = written_field (λ (r : RungRecord). r.offset) ks rs i;
  lengths = written_field (λ (r : RungRecord). r.length) ks rs i;
  times = written (none_entered (length ks)) ts;
}

-- once all times are stored, none stays
pub times_put_all : (times old : List ℕ) → times_put (length old) times old ≡ take (length old) times
unfolding times_put
times_put_all times old = ap (λ (l : List ℕ). take (length old) times ++ l) (drop-length old) ∙ append-nil (take (length old) times)

-- a copy's fields: zeros, as many as there is room for
pub copied : (room lent : ℕ) → room ≡ min most_records lent → length {A = ℕ} (take room (replicate most_records 0)) ≡ min most_records lent
copied room lent e = let n = length-replicate {A = ℕ} most_records 0 in length-take-le room (replicate {A = ℕ} most_records 0) (omega (arith, e)) ∙ e

-- ---- a call whose last question is 13, and which writes words and records, done on a copy of the fields of a row of `lent` records

module _ (before : Answer) (nw : List ℕ) (ks : List RungRecord) (few : before ≡ none → length ks ≤ most_records) (words : List ℕ) (lent : ℕ) (zl zo zn zt : List ℕ)
    (el : length zl ≡ min most_records lent) (eo : length zo ≡ min most_records lent) (en : length zn ≡ min most_records lent) (et : length zt ≡ min most_records lent) where
  abbrev pub copy : Buffers
  copy = buffers words zl zo zn zt

  abbrev pub asked : Buffers → Answer
  asked b = first_no (before ∷ question13 (needs (new_buffers nw ks) b) ∷ [])

  pub same_asked : (rs : List RungRecord) (ts : List ℕ) → length rs ≡ lent → length ts ≡ length rs → asked copy ≡ asked (as_buffers words rs ts)
  same_asked rs ts e f = asked_same before nw ks words rs ts zl zo zn zt few f (rw e el) (rw e eo) (rw e en) (rw e et)

  pub few_written : asked copy ≡ none → length ks ≤ most_records
  few_written e = few (first_yes before _ e)

  pub within_written : asked copy ≡ none → length ks ≤ lent
  within_written e =
      let y = roomy (new_buffers nw ks) copy (first_yes _ _ (later_yes before _ e)) in
      let l = labels_count nw ks (none_entered (length ks)) in
      omega (arith, y.labels, el)

  module _ (words' ls os ns times' rest : List ℕ) where
    abbrev pub fields : Rows
    fields = record { labels = ls ++ rest; offsets = os ++ rest; lengths = ns ++ rest; n = lent }

    pub same_refused : buffers words' ls os ns times' ≡ copy → (rs : List RungRecord) (ts : List ℕ) → as_buffers words' (scattered 0 fields rs) (written (none_entered 0) ts) ≡ as_buffers words rs ts
    same_refused e rs ts i = as_buffers (e i).words (scattered_none fields rs i) (none_written ts i)

    module _ (after : buffers words' ls os ns times' ≡ written_over (new_buffers nw ks) copy) (same-l : length ls ≡ length zl) (same-o : length os ≡ length zo) (same-n : length ns ≡ length zn) where
      first_field : (xs zs ys : List ℕ) → length ks ≡ length xs → ys ≡ written xs zs → take (length ks) (ys ++ rest) ≡ xs
      unfolding written
      first_field xs zs ys n e = rw (e, n, append_assoc xs (drop (length xs) zs) rest) (take-append_seam xs (drop (length xs) zs ++ rest))

      length_both : (xs ys : List ℕ) → length xs ≡ length ys → length (xs ++ rest) ≡ length (ys ++ rest)
      length_both xs ys e = length-append xs rest ∙ ap (λ n. n + length rest) e ∙ sym (length-append ys rest)

      begins : Begins fields ks
      unfolding as_buffers written_over
      begins = record {
        even = record { first = length_both ls os (same-l ∙ el ∙ sym (same-o ∙ eo)); second = length_both os ns (same-o ∙ eo ∙ sym (same-n ∙ en)) };
        first_labels = first_field (labels ks) zl ls (sym (length-map ks (λ r. r.label))) (ap (λ b. b.labels) after);
        first_offsets = first_field (offsets ks) zo os (sym (length-map ks (λ r. r.offset))) (ap (λ b. b.offsets) after);
        first_lengths = first_field (lengths ks) zn ns (sym (length-map ks (λ r. r.length))) (ap (λ b. b.lengths) after);
      }

      pub same_written : (rs : List RungRecord) (ts : List ℕ)
          → as_buffers words' (scattered (length ks) fields rs) (written (none_entered (length ks)) ts) ≡ written_over (new_buffers nw ks) (as_buffers words rs ts)
      unfolding as_buffers written_over
      same_written rs ts = (λ i. as_buffers (after i).words (scattered_begins fields ks rs begins i) (written (none_entered (length ks)) ts)) ∙ written_row nw words ks rs ts
