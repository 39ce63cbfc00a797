-- Laws of the questions in order: the first "no" of Read, and what it writes. Assumes nothing.
use Prim.Native.Nat.{ℕ, zero, suc, ◌+◌, ◌^◌, ◌≤◌, ◌<◌, max}
use native.Mathlib.Omega.{arith}
use native.Mathlib.Decide.{dec_le}
use mathlib.Core.Path.{◌≡◌, refl, sym, ap, subst, ◌∙◌}
use mathlib.Core.Bool.{true, false, ◌&&◌}
use mathlib.Core.Option.{none, some}
use mathlib.Core.List.{List, [], ◌∷◌}
use Rattle.std.specs.Prelude.{Result, Ok, Err}
use borrow.Author.Tests.{le-leb, lt-leb}
use lib.Dec.{leb, leb→le}
use mir.Facts.{and_yes}
use lib.ListN.{length, take, replicate, length-replicate}
use lib.Seq.{sets, length-take-le}
use Rattle.questions.specs.Tests.{all}
use Rattle.questions.specs.Questions.{Answer, ask, first_no, long_enough, vars_in_range, question1, question2, question13}
use Rattle.questions.specs.Refusals.{refusal_of}
use Rattle.questions.specs.declared.Refusal.{Refusal as RefusalCase}
use Rattle.questions.specs.declared.Refusal.TheVariants.{Variables, TextLength, Text, Sizes as SizesRefused, Buffer as BufferCase}
use Rattle.rungs.specs.Records.{row_of, most_records, none_entered, lay, longest}
use Rattle.rungs.proofs.Laws.Layout.{lay_length}
use Rattle.ladder_definitions.specs.Tree.{Ladder}
use Rattle.ladder_definitions.specs.Kept.{Kept, rung_words, encode, decode}
use Rattle.ladder_definitions.specs.Questions.{ladder_of, question4, sizes_in_range, question5, question6, question7, question8, question9, ladder_answer, ladder_questions, form_questions}
use Rattle.ladder_definitions.proofs.Laws.Accepting.{ladder_is, accepted}
use Rattle.ladder_definitions.proofs.Laws.Held.{even}
use Rattle.rungs.proofs.Laws.Rows.{Even}
use Rattle.text_grammar.specs.Reader.{Parse, read, stuck, text_of}
use Rattle.text_grammar.specs.Questions.{question3}
use Rattle.text_grammar.proofs.Theorems.{read_exactly, read_whole, scratch_always, decoded_always, kept_always}
use Rattle.rungs.specs.Buffers.{Buffers, buffers, Columns, columns_in, first_columns, as_buffers, columns_of, needs, has_room, written_over}
use Rattle.rungs.specs.Parts.{put_all, put_over}
use Rattle.rungs.proofs.Laws.Filling.{taken_out, row_of_new, labels_count, offsets_count, lengths_count, room_needs, over_written}
use Rattle.text_definitions.specs.Read.{text_ladder, kept_buffers, ReadCall, kept, refused, read_text, TextRead, ReadDone, text_read_answer}
use Rattle.text_lines.specs.Parts.{sizes_of, lines_parsed, kept_columns, LinesAreKept}
use Rattle.text.specs.Parts.{fits, read_in, hand_over}
use Rattle.rungs.specs.declared.Slices.{Slices}
use Rattle.text_lines.specs.declared.Sizes.{Sizes}
use Rattle.text_fronts.specs.declared.part.Stuck.{Stuck}

-- ---- the lent buffers

module _ (vars : ℕ) (new lent : Buffers) where
  abbrev kept_of : Kept
  kept_of = record { words = new.words; records = row_of new.labels new.offsets new.lengths new.times }

  refuses : (refusal : RefusalCase) → first_no (ladder_answer vars kept_of ∷ question13 (needs new lent) ∷ []) ≡ some (refusal_of refusal)
      → ReadDone (hand_over vars new lent) (Err refusal) lent
  unfolding hand_over text_read_answer
  refuses refusal e = record { answer = rw (e, hand_over); same_buffers = rw (e, hand_over) }

  pub over_refused : (refusal : RefusalCase) → ladder_answer vars kept_of ≡ some (refusal_of refusal) → ReadDone (hand_over vars new lent) (Err refusal) lent
  unfolding first_no
  over_refused refusal e = refuses refusal (rw e)

  module _ (ok : ladder_answer vars kept_of ≡ none) (zeros : new.times ≡ replicate (length new.labels) 0) where
    even_new : Even new.labels new.offsets new.lengths
    even_new = let a = accepted vars kept_of ok in even new.words new.labels new.offsets new.lengths new.times (ladder_of kept_of) a.0 a.1.some_rung

    needs_room : all long_enough (needs new lent) ≡ has_room lent (length new.words) (length new.labels)
    needs_room =
        let e = even_new in
        room_needs new lent _ _ refl refl (sym e.first) (sym (e.first ∙ e.second)) (ap length zeros ∙ length-replicate (length new.labels) 0)

    pub over_short : has_room lent (length new.words) (length new.labels) ≡ false → ReadDone (hand_over vars new lent) (Err BufferCase) lent
    unfolding first_no question13 ask refusal_of
    over_short e = refuses BufferCase (rw (ok, needs_room, e))

    pub over_kept : has_room lent (length new.words) (length new.labels) ≡ true → (after : Buffers) → after ≡ put_over (columns_of new) lent
        → ReadDone (hand_over vars new lent) (Ok (record { words = length new.words; rungs = length new.labels })) after
    unfolding hand_over text_read_answer first_no question13 ask
    over_kept room after put =
        let e = even_new in
        let asked : first_no (ladder_answer vars kept_of ∷ question13 (needs new lent) ∷ []) ≡ none = rw (ok, needs_room, room) refl in
        record {
          answer = rw (asked, hand_over);
          same_buffers = rw (asked, hand_over)
              (over_written new lent _ _ refl refl (sym e.first) (sym (e.first ∙ e.second)) (ap length zeros ∙ length-replicate (length new.labels) 0) room zeros after put);
        }

-- ---- question 5

-- the longest is within a limit just when all are
both_within : (a b most : ℕ) → leb (max a b) most ≡ (leb a most && leb b most)
both_within a b most = go (dec_le a most) (dec_le b most)
  where
    go : Dec (a ≤ most) → Dec (b ≤ most) → leb (max a b) most ≡ (leb a most && leb b most)
    go (yes p) (yes q) = rw (le-leb a most p, le-leb b most q) (le-leb (max a b) most (omega arith))
    go (yes p) (no q) = rw (le-leb a most p, lt-leb b most (omega arith)) (lt-leb (max a b) most (omega arith))
    go (no p) d = rw (lt-leb a most (omega arith)) (lt-leb (max a b) most (omega arith))

longest_within : (most start : ℕ) (gs : Ladder) → leb (longest (lay (λ g. g.label) (λ g. length (rung_words g)) start gs)) most ≡ all (λ g. leb (length (rung_words g)) most) gs
unfolding longest lay
longest_within most start [] = le-leb 0 most (omega arith)
longest_within most start (g ∷ gs) = both_within (length (rung_words g)) _ most ∙ rw (longest_within most (start + length (rung_words g)) gs) refl

pub fits_sizes : (gs : Ladder) → fits (sizes_of gs) ≡ sizes_in_range gs
unfolding fits sizes_of sizes_in_range encode
fits_sizes gs = rw (longest_within 128 0 gs) refl

-- ---- the questions in order

-- questions put one after the other, some of which always get a "yes"
joined : (a b c d : Answer) → first_no (first_no (none ∷ none ∷ none ∷ a ∷ b ∷ c ∷ none ∷ []) ∷ d ∷ []) ≡ first_no (none ∷ none ∷ none ∷ none ∷ a ∷ b ∷ c ∷ d ∷ [])
unfolding first_no
joined (some r) b c d = refl
joined none (some r) c d = refl
joined none none (some r) d = refl
joined none none none d = refl

module _ (vars : ℕ) (text : List ℕ) (lent : Buffers) where
  abbrev questions : Ladder → List Answer
  questions gs =
      question1 vars ∷ question2 (length text) ∷ question3 text ∷ question5 gs ∷ question6 vars gs ∷ question7 gs ∷ question8 gs
      ∷ question13 (needs (kept_buffers gs) lent) ∷ []

  read_refuses : (refusal : RefusalCase) → first_no (questions (text_ladder text)) ≡ some (refusal_of refusal) → ReadDone (read_text vars text lent) (Err refusal) lent
  unfolding read_text text_read_answer
  read_refuses refusal e = record { answer = rw (e, read_text); same_buffers = rw (e, read_text) }

  pub read_refused_1 : vars_in_range vars ≡ false → ReadDone (read_text vars text lent) (Err Variables) lent
  unfolding first_no question1 ask refusal_of
  read_refused_1 e = read_refuses Variables (rw e)

  module _ (yes1 : vars_in_range vars ≡ true) where
    pub read_refused_2 : (leb 1 (length text) && leb (length text) 65535) ≡ false → ReadDone (read_text vars text lent) (Err TextLength) lent
    unfolding first_no question1 question2 ask refusal_of
    read_refused_2 e = read_refuses TextLength (rw (yes1, e))

    module _ (yes2 : (leb 1 (length text) && leb (length text) 65535) ≡ true) where
      no3 : (p : ℕ) → text_of text ≡ stuck p → question3 text ≡ some (refusal_of (Text p))
      unfolding question3 refusal_of
      no3 p e = rw (e, question3)

      pub read_refused_3 : (p : ℕ) → text_of text ≡ stuck p → ReadDone (read_text vars text lent) (Err (Text p)) lent
      unfolding first_no question1 question2 ask
      read_refused_3 p e = read_refuses (Text p) (rw (yes1, yes2, no3 p e))

      module _ (n : ℕ) (gs : Ladder) (e : text_of text ≡ read n gs) where
        ladder_of_lem : text_ladder text ≡ gs
        unfolding text_ladder
        ladder_of_lem = rw (e, text_ladder)

        yes3 : question3 text ≡ none
        unfolding question3
        yes3 = rw (e, question3)

        pub read_refused_5 : sizes_in_range gs ≡ false → ReadDone (read_text vars text lent) (Err SizesRefused) lent
        unfolding first_no question1 question2 question5 ask refusal_of
        read_refused_5 s = read_refuses SizesRefused (rw (ladder_of_lem, yes1, yes2, yes3, s))

        module _ (yes5 : sizes_in_range gs ≡ true) (back : decode (encode gs) ≡ some gs) (yes4 : question4 (encode gs) ≡ none) (yes9 : question9 gs ≡ none) where
          kept_back : record { words = (kept_buffers gs).words; records = row_of (kept_buffers gs).labels (kept_buffers gs).offsets (kept_buffers gs).lengths (kept_buffers gs).times } ≡ encode gs
          unfolding as_buffers
          kept_back i = record { words = (encode gs).words; records = row_of_new (encode gs).words (encode gs).records i }

          -- questions 4 and 9 always get a "yes"
          same_no : first_no (ladder_answer vars (record { words = (kept_buffers gs).words; records = row_of (kept_buffers gs).labels (kept_buffers gs).offsets (kept_buffers gs).lengths (kept_buffers gs).times })
              ∷ question13 (needs (kept_buffers gs) lent) ∷ []) ≡ first_no (questions gs)
          unfolding ladder_answer ladder_questions form_questions question1 question2 question5 ask
          same_no = rw (kept_back, ladder_is (encode gs) gs back, yes1, yes2, yes3, yes4, yes5, yes9) (joined (question6 vars gs) (question7 gs) (question8 gs) _)

          rungs_read : length (kept_buffers gs).labels ≡ length gs
          unfolding as_buffers encode
          rungs_read = labels_count (encode gs).words (encode gs).records (none_entered (length (encode gs).records)) ∙ lay_length (λ g. g.label) (λ g. length (rung_words g)) 0 gs

          abbrev accepts : Ladder → ℕ → ReadCall
          accepts hs rungs = record { answer = kept (length (kept_buffers hs).words) rungs; buffers = written_over (kept_buffers hs) lent }

          same_call : hand_over vars (kept_buffers gs) lent ≡ read_text vars text lent
          unfolding hand_over read_text
          same_call = go (first_no (questions gs)) refl
            where
              go : (x : Answer) → first_no (questions gs) ≡ x → hand_over vars (kept_buffers gs) lent ≡ read_text vars text lent
              go (some refusal) q =
                  let a = same_no ∙ q in
                  let b : first_no (questions (text_ladder text)) ≡ some refusal = ap (λ hs. first_no (questions hs)) ladder_of_lem ∙ q in
                  let x : hand_over vars (kept_buffers gs) lent ≡ record { answer = refused refusal; buffers = lent } = rw (a, hand_over) in
                  let y : read_text vars text lent ≡ record { answer = refused refusal; buffers = lent } = rw (b, read_text) in
                  x ∙ sym y
              go none q =
                  let a = same_no ∙ q in
                  let b : first_no (questions (text_ladder text)) ≡ none = ap (λ hs. first_no (questions hs)) ladder_of_lem ∙ q in
                  let x : hand_over vars (kept_buffers gs) lent ≡ accepts gs (length (kept_buffers gs).labels) = rw (a, hand_over) in
                  let y : read_text vars text lent ≡ accepts (text_ladder text) (length (text_ladder text)) = rw (b, read_text) in
                  x ∙ ap (accepts gs) rungs_read ∙ sym (ap (λ hs. accepts hs (length hs)) ladder_of_lem) ∙ sym y

-- ---- from the lines to the questions

module _ (p : Parse Ladder) (r : Result Sizes Stuck) (b a : Columns) (k : LinesAreKept p r b a) where
  pub lines_stuck : (x : Stuck) → r ≡ Err x → p ≡ stuck x.place
  lines_stuck x e = go p (sym e ∙ k.same)
    where
      go : (q : Parse Ladder) → Err x ≡ lines_parsed q → q ≡ stuck x.place
      go (read n gs) h = let z : ◌≡◌ {A = ℕ} 0 1 = cc in absurd (omega arith)
      go (stuck y) h = cc

  pub lines_read : (z : Sizes) → r ≡ Ok z → (n : ℕ) × (gs : Ladder) × (p ≡ read n gs) × (z ≡ sizes_of gs)
  lines_read z e = go p (sym e ∙ k.same)
    where
      go : (q : Parse Ladder) → Ok z ≡ lines_parsed q → (n : ℕ) × (gs : Ladder) × (q ≡ read n gs) × (z ≡ sizes_of gs)
      go (read n gs) h = (n, gs, refl, cc)
      go (stuck y) h = let z : ◌≡◌ {A = ℕ} 0 1 = cc in absurd (omega arith)

-- what the ladder takes is within question 5
pub record Room (z : Sizes) : Type 0 where
  pub rungs : z.rungs ≤ 256
  pub longest : z.longest ≤ 128
  pub words : z.words ≤ 8192

pub fits_room : (z : Sizes) → fits z ≡ true → Room z
unfolding fits
fits_room z e =
    let h = and_yes (leb z.rungs 256) (leb z.longest 128 && leb z.words 8192) (rw e tt) in
    let g = and_yes (leb z.longest 128) _ h.1 in
    record { rungs = leb→le _ _ h.0; longest = leb→le _ _ g.0; words = leb→le _ _ g.1 }

-- buffers of the sizes that question 5 asks for
pub record Zeroed (b : Columns) : Type 0 where
  pub words : length b.words ≡ 8192
  pub labels : length b.labels ≡ 256
  pub offsets : length b.offsets ≡ 256
  pub lengths : length b.lengths ≡ 256

-- the first entries of the buffers that the lines were kept in, and as many zeros
abbrev pub first_of : Sizes → Columns → Buffers
first_of z a =
    record {
      words = take z.words a.words;
      labels = take z.rungs a.labels;
      offsets = take z.rungs a.offsets;
      lengths = take z.rungs a.lengths;
      times = take z.rungs (replicate most_records 0);
    }

zeros_first : (n most : ℕ) → n ≤ most → take n (none_entered most) ≡ none_entered n
zeros_first zero most h = refl
zeros_first (suc n) zero h = absurd (omega arith)
zeros_first (suc n) (suc most) h = ap (λ (l : List ℕ). 0 ∷ l) (zeros_first n most (omega arith))

-- as they are lent
module _ (z : Sizes) (a : Columns) (s : Slices) (e : columns_in s ≡ first_columns z.words z.rungs a) where
  first_read : read_in s (take z.rungs (replicate most_records 0)) ≡ first_of z a
  first_read = ap (λ k. buffers k.words k.labels k.offsets k.lengths (take z.rungs (replicate most_records 0))) e

  pub first_zeros : z.rungs ≤ length a.labels → z.rungs ≤ most_records → take {A = ℕ} z.rungs (replicate most_records 0) ≡ replicate (length s.labels.now) 0
  first_zeros h k = zeros_first z.rungs most_records k ∙ ap none_entered (sym (ap (λ c. length c.labels) e ∙ length-take-le z.rungs a.labels h))

module _ (gs : Ladder) (b a : Columns) (room : Room (sizes_of gs)) (zeroed : Zeroed b) (e : a ≡ put_all b (kept_columns gs)) where
  abbrev new : Buffers
  new = kept_buffers gs

  rungs_laid : length (encode gs).records ≡ length gs
  unfolding encode
  rungs_laid = lay_length (λ g. g.label) (λ g. length (rung_words g)) 0 gs

  first_is : (n : ℕ) (xs out out' : List ℕ) → n ≡ length xs → n ≤ length out → out' ≡ sets out 0 xs → take n out' ≡ xs
  first_is n xs out out' q h s = rw q (taken_out xs out out' (omega arith) s)

  pub first_kept : first_of (sizes_of gs) a ≡ kept_buffers gs
  unfolding sizes_of put_all as_buffers
  first_kept i =
      record {
        words = first_is (length (encode gs).words) new.words b.words a.words refl (omega (arith, room.words, zeroed.words)) (ap (λ x. x.words) e) i;
        labels = first_is (length gs) new.labels b.labels a.labels (sym (labels_count (encode gs).words (encode gs).records new.times ∙ rungs_laid)) (omega (arith, room.rungs, zeroed.labels)) (ap (λ x. x.labels) e) i;
        offsets = first_is (length gs) new.offsets b.offsets a.offsets (sym (offsets_count (encode gs).words (encode gs).records new.times ∙ rungs_laid)) (omega (arith, room.rungs, zeroed.offsets)) (ap (λ x. x.offsets) e) i;
        lengths = first_is (length gs) new.lengths b.lengths a.lengths (sym (lengths_count (encode gs).words (encode gs).records new.times ∙ rungs_laid)) (omega (arith, room.rungs, zeroed.lengths)) (ap (λ x. x.lengths) e) i;
        times = (zeros_first (length gs) most_records room.rungs ∙ ap none_entered (sym rungs_laid)) i;
      }

module _ (vars : ℕ) (text : List ℕ) (lent : Buffers) (yes1 : vars_in_range vars ≡ true) (yes2 : (leb 1 (length text) && leb (length text) 65535) ≡ true)
    (r : Result Sizes Stuck) (b a : Columns) (k : LinesAreKept (text_of text) r b a) where
  pub read_stuck : (x : Stuck) → r ≡ Err x → ReadDone (read_text vars text lent) (Err (Text x.place)) lent
  read_stuck x e = read_refused_3 vars text lent yes1 yes2 x.place (lines_stuck (text_of text) r b a k x e)

  module _ (z : Sizes) (e : r ≡ Ok z) where
    pub read_too_large : fits z ≡ false → ReadDone (read_text vars text lent) (Err SizesRefused) lent
    read_too_large f =
        let h = lines_read (text_of text) r b a k z e in
        read_refused_5 vars text lent yes1 yes2 h.0 h.1 h.2 (sym (fits_sizes h.1) ∙ sym (ap fits h.3) ∙ f)

    pub read_done : fits z ≡ true → Zeroed b → (new : Slices) → columns_in new ≡ first_columns z.words z.rungs a → (x : TextRead) (after : Buffers)
        → ReadDone (hand_over vars (read_in new (take {A = ℕ} z.rungs (replicate most_records 0))) lent) x after → ReadDone (read_text vars text lent) x after
    read_done f zeroed new lent_first x after d =
        let h = lines_read (text_of text) r b a k z e in
        let gs = h.1 in
        let t = (read_exactly text gs).0 (h.2 ∙ ap (λ n. read n gs) (read_whole text h.0 gs h.2)) in
        let room : Room (sizes_of gs) = fits_room (sizes_of gs) (sym (ap fits h.3) ∙ f) in
        let first : first_of z a ≡ kept_buffers gs = ap (λ y. first_of y a) h.3 ∙ first_kept gs b a room zeroed (k.out h.0 gs h.2 room.longest) in
        let same = ap (λ y. hand_over vars y lent) (first_read z a new lent_first ∙ first)
        ∙ same_call vars text lent yes1 yes2 h.0 gs h.2 (sym (fits_sizes gs) ∙ sym (ap fits h.3) ∙ f) (decoded_always t) (kept_always t) (scratch_always t) in
        subst (λ c. ReadDone c x after) same d

-- a text in range has fewer bytes than a number of 32 bits counts
pub length_small : (n : ℕ) → (leb 1 n && leb n 65535) ≡ true → n < 2 ^ 32
length_small n e = let h = leb→le n 65535 (and_yes (leb 1 n) (leb n 65535) (rw e tt)).1 in omega arith
