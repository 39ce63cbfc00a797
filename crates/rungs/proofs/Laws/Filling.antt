-- Laws of lent buffers: what question 13 asks of them, and what was written taken out again. Assumes nothing.
use Rattle.std.specs.Prelude.{ℕ, ◌≤◌, ◌<◌, ◌≡◌, true, false, List, leb, length, take, drop, replicate}
use Rattle.std.proofs.Common.{zero-add, arith, sym, ap, ◌∙◌, leb→le, take_at}
use Rattle.std.proofs.Math.Path.{refl}
use Rattle.std.proofs.Math.Option.{none}
use borrow.Author.Tests.{le-leb, lt-leb}
use Rattle.std.proofs.Math.Bool.{and-true}
use Rattle.std.proofs.Math.Facts.{and_yes}
use Rattle.std.proofs.Math.ListN.{length-map}
use Rattle.std.proofs.lemmas.List.{length-replicate}
use Rattle.std.proofs.lemmas.List.Edits.{sets, sets-eq}
use Rattle.std.proofs.Math.Seq.{take-length}
use Rattle.questions.specs.Tests.{all}
use Rattle.questions.specs.Questions.{ask, long_enough, question13}
use Rattle.questions.proofs.Laws.Answers.{ask_passed}
use Rattle.rungs.specs.Records.{RungRecord, none_entered, row_of}
use Rattle.rungs.specs.Buffers.{Buffers, columns_of, as_buffers, new_buffers, needs, written, written_over, has_room}
use Rattle.rungs.specs.Parts.{put_all, put_over}
use Rattle.rungs.proofs.Laws.Rows.{row_back, row_fields}

-- stores from the start of a buffer that has room
pub written_sets : (xs out : List ℕ) → length xs ≤ length out → sets out 0 xs ≡ written xs out
unfolding written
written_sets xs out h = sets-eq xs out 0 (omega arith) ∙ rw (zero-add (length xs)) refl

pub written_all : (xs out new : List ℕ) → length xs ≤ length out → new ≡ sets out 0 (take (length xs) xs) → new ≡ written xs out
written_all xs out new h e = e ∙ rw (take-length xs) (written_sets xs out h)

-- what was written, taken out again
pub written_first : (xs out : List ℕ) → take (length xs) (written xs out) ≡ xs
unfolding written
written_first xs out = take_at xs (drop (length xs) out) (length xs) refl

pub first_written : (n : ℕ) (xs out : List ℕ) → length xs ≡ n → take n (written xs out) ≡ xs
first_written n xs out e = rw (← e) (written_first xs out)

pub taken_out : (xs out new : List ℕ) → length xs ≤ length out → new ≡ sets out 0 xs → take (length xs) new ≡ xs
taken_out xs out new h e = rw (e, written_sets xs out h) (written_first xs out)

-- the row that stands in buffers of just its size
pub row_of_buffers : (ws : List ℕ) (rs : List RungRecord) (ts : List ℕ) → length rs ≡ length ts
    → row_of (as_buffers ws rs ts).labels (as_buffers ws rs ts).offsets (as_buffers ws rs ts).lengths (as_buffers ws rs ts).times ≡ rs
unfolding as_buffers
row_of_buffers ws rs ts e = row_fields _ _ _ ts (length-map rs (λ r. r.label) ∙ e) ∙ row_back rs

pub row_of_new : (ws : List ℕ) (rs : List RungRecord)
    → row_of (new_buffers ws rs).labels (new_buffers ws rs).offsets (new_buffers ws rs).lengths (new_buffers ws rs).times ≡ rs
row_of_new ws rs = row_of_buffers ws rs (none_entered (length rs)) (sym (length-replicate (length rs) 0))

-- as many labels as records, and offsets and lengths too
module _ (ws : List ℕ) (rs : List RungRecord) (ts : List ℕ) where
  pub labels_count : length (as_buffers ws rs ts).labels ≡ length rs
  unfolding as_buffers
  labels_count = length-map rs (λ r. r.label)

  pub offsets_count : length (as_buffers ws rs ts).offsets ≡ length rs
  unfolding as_buffers
  offsets_count = length-map rs (λ r. r.offset)

  pub lengths_count : length (as_buffers ws rs ts).lengths ≡ length rs
  unfolding as_buffers
  lengths_count = length-map rs (λ r. r.length)

-- and times entered, where a call writes records
pub times_count : (ws : List ℕ) (rs : List RungRecord) → length (new_buffers ws rs).times ≡ length rs
unfolding as_buffers
times_count ws rs = length-replicate (length rs) 0

-- question 13, buffer by buffer
module _ (new lent : Buffers) where
  pub short_words : length lent.words < length new.words → all long_enough (needs new lent) ≡ false
  unfolding long_enough needs
  short_words a = rw (lt-leb _ _ a) refl

  module _ (w : length new.words ≤ length lent.words) where
    pub short_labels : length lent.labels < length new.labels → all long_enough (needs new lent) ≡ false
    unfolding long_enough needs
    short_labels a = rw (le-leb _ _ w, lt-leb _ _ a) refl

    module _ (l : length new.labels ≤ length lent.labels) where
      pub short_offsets : length lent.offsets < length new.offsets → all long_enough (needs new lent) ≡ false
      unfolding long_enough needs
      short_offsets a = rw (le-leb _ _ w, le-leb _ _ l, lt-leb _ _ a) refl

      module _ (o : length new.offsets ≤ length lent.offsets) where
        pub short_lengths : length lent.lengths < length new.lengths → all long_enough (needs new lent) ≡ false
        unfolding long_enough needs
        short_lengths a = rw (le-leb _ _ w, le-leb _ _ l, le-leb _ _ o, lt-leb _ _ a) refl

        module _ (n : length new.lengths ≤ length lent.lengths) where
          pub short_times : length lent.times < length new.times → all long_enough (needs new lent) ≡ false
          unfolding long_enough needs
          short_times a = rw (le-leb _ _ w, le-leb _ _ l, le-leb _ _ o, le-leb _ _ n, lt-leb _ _ a) refl

          pub enough : length new.times ≤ length lent.times → all long_enough (needs new lent) ≡ true
          unfolding long_enough needs
          enough t = rw (le-leb _ _ w, le-leb _ _ l, le-leb _ _ o, le-leb _ _ n, le-leb _ _ t) refl

          pub put_written : length new.times ≤ length lent.times → (after : Buffers) → columns_of after ≡ put_all (columns_of lent) (columns_of new)
              → after.times ≡ sets lent.times 0 new.times → after ≡ written_over new lent
          unfolding put_all written_over
          put_written t after e f i =
              record {
                words = (ap (λ c. c.words) e ∙ written_sets new.words lent.words w) i;
                labels = (ap (λ c. c.labels) e ∙ written_sets new.labels lent.labels l) i;
                offsets = (ap (λ c. c.offsets) e ∙ written_sets new.offsets lent.offsets o) i;
                lengths = (ap (λ c. c.lengths) e ∙ written_sets new.lengths lent.lengths n) i;
                times = (f ∙ written_sets new.times lent.times t) i;
              }

-- what a "yes" to question 13 says
pub record Roomy (new lent : Buffers) : Type 0 where
  pub words : length new.words ≤ length lent.words
  pub labels : length new.labels ≤ length lent.labels
  pub offsets : length new.offsets ≤ length lent.offsets
  pub lengths : length new.lengths ≤ length lent.lengths
  pub times : length new.times ≤ length lent.times

pub roomy : (new lent : Buffers) → question13 (needs new lent) ≡ none → Roomy new lent
unfolding question13 long_enough needs
roomy new lent e =
    let a = and_yes (leb (length new.words) (length lent.words)) _ (ask_passed 13 _ e) in
    let b = and_yes (leb (length new.labels) (length lent.labels)) _ a.1 in
    let c = and_yes (leb (length new.offsets) (length lent.offsets)) _ b.1 in
    let d = and_yes (leb (length new.lengths) (length lent.lengths)) _ c.1 in
    let f = and_yes (leb (length new.times) (length lent.times)) _ d.1 in
    record { words = leb→le _ _ a.0; labels = leb→le _ _ b.0; offsets = leb→le _ _ c.0; lengths = leb→le _ _ d.0; times = leb→le _ _ f.0 }

-- the same of as many words and records as a call counts
module _ (new lent : Buffers) (words rungs : ℕ) (w : length new.words ≡ words) (l : length new.labels ≡ rungs) (o : length new.offsets ≡ rungs) (n : length new.lengths ≡ rungs)
    (t : length new.times ≡ rungs) where
  pub room_needs : all long_enough (needs new lent) ≡ has_room lent words rungs
  unfolding long_enough needs
  room_needs = rw (w, l, o, n, t, and-true (leb rungs (length lent.times))) refl

  -- where there is room, they are written with times of 0
  pub over_written : has_room lent words rungs ≡ true → new.times ≡ replicate (length new.labels) 0 → (after : Buffers) → after ≡ put_over (columns_of new) lent → after ≡ written_over new lent
  unfolding put_all question13 ask
  over_written room zeros after e =
      let r = roomy new lent (rw (room_needs, room)) in
      put_written new lent r.words r.labels r.offsets r.lengths r.times after (ap columns_of e) (ap (λ b. b.times) e ∙ ap (λ z. sets lent.times 0 z) (sym zeros))
