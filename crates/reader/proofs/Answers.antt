-- Laws of the questions in order: the first "no" of the reader, and what it writes. Assumes nothing.
use Prim.Native.Nat.{ℕ, ◌≤◌, ◌<◌}
use native.Mathlib.Omega.{arith}
use mathlib.Core.Path.{◌≡◌, refl, sym, ap, subst, ◌∙◌}
use mathlib.Core.Bool.{true, false, ◌&&◌, and-false}
use mathlib.Core.Logic.{◌⊎◌, inl, inr}
use mathlib.Core.Option.{none, some}
use mathlib.Core.List.{List, [], ◌∷◌, map}
use borrow.Author.Tests.{lt-leb}
use mir.Facts.{and_yes}
use lib.Dec.{leb, leb→le}
use lib.ListN.{length, take, length-map, length-replicate}
use lib.Seq.{sets}
use Rattle.questions.specs.Tests.{all}
use Rattle.questions.specs.Questions.{Answer, ask, first_no, long_enough, most_variables, vars_in_range, question1, question13}
use Rattle.questions.specs.Refusals.{refusal_of}
use Rattle.questions.specs.declared.Refusal.{Refusal as RefusalCase}
use Rattle.questions.specs.declared.Refusal.TheVariants.{Variables, List as ListCase, Buffer as BufferCase, NameTable, ListText}
use Rattle.rungs.specs.Records.{RungRecord, none_entered, row_of, most_records}
use Rattle.rungs.specs.Buffers.{Buffers, Columns, as_buffers, needs, written_over, has_room}
use Rattle.rungs.specs.Parts.{put_all, put_over}
use Rattle.rungs.proofs.Laws.Layout.{lay_length}
use Rattle.rungs.proofs.Laws.Filling.{taken_out, row_of_buffers, labels_count, offsets_count, lengths_count, room_needs, over_written}
use Rattle.text_grammar.specs.Reader.{Parse, read, stuck}
use Rattle.list_definitions.specs.Instruction.{instr_word}
use Rattle.list_definitions.specs.Names.{names_in, is_name_table, question14}
use Rattle.list_definitions.specs.Questions.{most_instructions, list_in_range, question10, list_answer}
use Rattle.std.specs.Prelude.{Some, None, Ok, Err}
use Rattle.translation_definitions.specs.TranslateKept.{list_buffers, counts_of, translated, refused, TranslateCall, Translated, translated_answer, TranslateDone}
use Rattle.reader_definitions.specs.Form.{ListRung, list_of_rungs}
use Rattle.reader_definitions.specs.Reader.{list_text_of}
use Rattle.reader_definitions.specs.ReadList.{question15, words_of, read_questions, read_list}
use Rattle.reader_definitions.proofs.Laws.Calls.{read_no, read_yes, form_read}
use Rattle.reader.specs.Parts.{sizes_of, list_columns, rungs_case, RungsAreKept, unentered, hand_over}
use Rattle.reader.specs.declared.reading.Sizes.{Sizes}

-- ---- the lent buffers

module _ (vars longest : ℕ) (new : Columns) (lent : Buffers) where
  abbrev answer : Answer
  answer = list_answer vars new.words (row_of new.labels new.offsets new.lengths new.lengths)

  refuses : (refusal : RefusalCase) → first_no (answer ∷ question13 (needs (unentered new) lent) ∷ []) ≡ some (refusal_of refusal)
      → TranslateDone (hand_over vars longest new lent) (Err refusal) lent
  unfolding hand_over translated_answer
  refuses refusal e = record { answer = rw (e, hand_over); same_buffers = rw (e, hand_over) }

  pub over_refused : (refusal : RefusalCase) → answer ≡ some (refusal_of refusal) → TranslateDone (hand_over vars longest new lent) (Err refusal) lent
  unfolding first_no
  over_refused refusal e = refuses refusal (rw e)

  module _ (ok : answer ≡ none) (o : length new.offsets ≡ length new.labels) (n : length new.lengths ≡ length new.labels) where
    as_many : length (none_entered (length new.labels)) ≡ length new.labels
    as_many = length-replicate (length new.labels) 0

    needs_room : all long_enough (needs (unentered new) lent) ≡ has_room lent (length new.words) (length new.labels)
    needs_room = room_needs (unentered new) lent _ _ refl refl o n as_many

    pub over_short : has_room lent (length new.words) (length new.labels) ≡ false → TranslateDone (hand_over vars longest new lent) (Err BufferCase) lent
    unfolding first_no question13 ask refusal_of
    over_short e = refuses BufferCase (rw (ok, needs_room, e))

    pub over_put : has_room lent (length new.words) (length new.labels) ≡ true → (after : Buffers) → after ≡ put_over new lent
        → TranslateDone (hand_over vars longest new lent) (Ok (record { instructions = length new.words; rungs = length new.labels; longest = longest })) after
    unfolding hand_over translated_answer first_no question13 ask
    over_put room after put =
        let asked : first_no (answer ∷ question13 (needs (unentered new) lent) ∷ []) ≡ none = rw (ok, needs_room, room) refl in
        record {
          answer = rw (asked, hand_over);
          same_buffers = rw (asked, hand_over) (over_written (unentered new) lent _ _ refl refl o n as_many room refl after put);
        }

-- ---- the columns of a list that was read

module _ (gs : List ListRung) where
  abbrev ws : List ℕ
  ws = words_of (list_of_rungs gs)

  abbrev rs : List RungRecord
  rs = (list_of_rungs gs).records

  abbrev ns : List ℕ
  ns = map (λ (r : RungRecord). r.length) rs

  unentered_list : unentered (list_columns gs) ≡ list_buffers (list_of_rungs gs)
  unfolding as_buffers
  unentered_list i =
      record {
        words = (list_columns gs).words;
        labels = (list_columns gs).labels;
        offsets = (list_columns gs).offsets;
        lengths = (list_columns gs).lengths;
        times = none_entered (labels_count ws rs ns i);
      }

  row_is : row_of (list_columns gs).labels (list_columns gs).offsets (list_columns gs).lengths (list_columns gs).lengths ≡ rs
  unfolding as_buffers
  row_is = row_of_buffers ws rs ns (sym (length-map rs (λ r. r.length)))

  records_many : length rs ≡ length gs
  unfolding list_of_rungs
  records_many = lay_length (λ (g : ListRung). g.label) (λ g. length g.code) 0 gs

-- ---- the questions in order

joined : (a : Answer) (later : List Answer) → first_no (first_no (a ∷ []) ∷ later) ≡ first_no (a ∷ later)
unfolding first_no
joined none later = refl
joined (some r) later = refl

no_form : (table : List ℕ) (vars : ℕ) (text : List ℕ) (p : ℕ) → list_text_of (names_in table) vars text ≡ stuck p → question15 table vars text ≡ some (refusal_of ListText)
unfolding question15 refusal_of
no_form table vars text p e = rw (e, question15)

module _ (table : List ℕ) (vars : ℕ) (text : List ℕ) (lent : Buffers) where
  read_refuses : (refusal : RefusalCase) → read_questions table vars text lent ≡ some (refusal_of refusal) → TranslateDone (read_list table vars text lent) (Err refusal) lent
  unfolding translated_answer
  read_refuses refusal e =
      let c = read_no table vars text lent (refusal_of refusal) e in
      record { answer = sym (ap (λ t. t.answer) c); same_buffers = sym (ap (λ t. t.buffers) c) }

  pub refused_14 : is_name_table table ≡ false → TranslateDone (read_list table vars text lent) (Err NameTable) lent
  unfolding read_questions first_no question14 ask refusal_of
  refused_14 e = read_refuses NameTable (rw e)

  module _ (yes14 : is_name_table table ≡ true) where
    pub refused_1 : vars_in_range vars ≡ false → TranslateDone (read_list table vars text lent) (Err Variables) lent
    unfolding read_questions first_no question14 question1 ask refusal_of
    refused_1 e = read_refuses Variables (rw (yes14, e))

    module _ (yes1 : vars_in_range vars ≡ true) where
      refused_15 : (p : ℕ) → list_text_of (names_in table) vars text ≡ stuck p → TranslateDone (read_list table vars text lent) (Err ListText) lent
      unfolding read_questions first_no question14 question1 ask refusal_of
      refused_15 p e = let no = no_form table vars text p e in read_refuses ListText (rw (yes14, yes1, no))

      module _ (n : ℕ) (gs : List ListRung) (e : list_text_of (names_in table) vars text ≡ read n gs) where
        refused_10 : list_in_range vars (ws gs) (rs gs) ≡ false → TranslateDone (read_list table vars text lent) (Err ListCase) lent
        unfolding read_questions first_no question14 question1 question10 ask refusal_of
        refused_10 q = let f = form_read table vars text n gs e in read_refuses ListCase (rw (yes14, yes1, f.0, f.1, q))

        -- questions 14, 1 and 15 get a "yes"
        left_to_ask : read_questions table vars text lent ≡ first_no (question10 vars (ws gs) (rs gs) ∷ question13 (needs (list_buffers (list_of_rungs gs)) lent) ∷ [])
        unfolding read_questions first_no question14 question1 ask
        left_to_ask = let f = form_read table vars text n gs e in rw (yes14, yes1, f.0, f.1) refl

        same_answer : list_answer vars (ws gs) (rs gs) ≡ first_no (question10 vars (ws gs) (rs gs) ∷ [])
        unfolding list_answer first_no question1 ask
        same_answer = rw yes1 refl

        same_no : first_no (answer vars (sizes_of gs).longest (list_columns gs) lent ∷ question13 (needs (unentered (list_columns gs)) lent) ∷ []) ≡ read_questions table vars text lent
        unfolding as_buffers
        same_no =
            ap (λ r. first_no (list_answer vars (ws gs) r ∷ question13 (needs (unentered (list_columns gs)) lent) ∷ [])) (row_is gs)
            ∙ (ap (λ b. first_no (list_answer vars (ws gs) (rs gs) ∷ question13 (needs b lent) ∷ [])) (unentered_list gs)
            ∙ (ap (λ a. first_no (a ∷ question13 (needs (list_buffers (list_of_rungs gs)) lent) ∷ [])) same_answer
            ∙ (joined (question10 vars (ws gs) (rs gs)) (question13 (needs (list_buffers (list_of_rungs gs)) lent) ∷ []) ∙ sym left_to_ask)))

        abbrev accepts : List ListRung → TranslateCall
        accepts hs = record { answer = translated (counts_of (list_of_rungs hs)); buffers = written_over (list_buffers (list_of_rungs hs)) lent }

        counted : record {
          answer = translated (record { instructions = length (list_columns gs).words; rungs = length (list_columns gs).labels; longest = (sizes_of gs).longest });
          buffers = written_over (unentered (list_columns gs)) lent;
        }
            ≡ accepts gs
        unfolding counts_of sizes_of as_buffers
        counted i =
            record {
              answer = translated (record { instructions = length-map (list_of_rungs gs).code instr_word i; rungs = labels_count (ws gs) (rs gs) (ns gs) i; longest = (sizes_of gs).longest });
              buffers = written_over (unentered_list gs i) lent;
            }

        same_call : hand_over vars (sizes_of gs).longest (list_columns gs) lent ≡ read_list table vars text lent
        unfolding hand_over
        same_call = go (read_questions table vars text lent) refl
          where
            go : (x : Answer) → read_questions table vars text lent ≡ x → hand_over vars (sizes_of gs).longest (list_columns gs) lent ≡ read_list table vars text lent
            go (some refusal) q =
                let a = same_no ∙ q in
                let x : hand_over vars (sizes_of gs).longest (list_columns gs) lent ≡ record { answer = refused refusal; buffers = lent } = rw (a, hand_over) in
                x ∙ sym (read_no table vars text lent refusal q)
            go none q =
                let a = same_no ∙ q in
                let f = (form_read table vars text n gs e).1 in
                let x : hand_over vars (sizes_of gs).longest (list_columns gs) lent ≡ accepts gs = rw (a, hand_over) counted in
                x ∙ (sym (ap accepts f) ∙ sym (read_yes table vars text lent q))

-- ---- from the rungs to the questions

rungs_lost : (p : Parse (List ListRung)) (b a : Columns) → RungsAreKept p None b a → (x : ℕ) × (p ≡ stuck x)
rungs_lost p b a k = go p k.same
  where
    go : (q : Parse (List ListRung)) → None ≡ rungs_case q → (x : ℕ) × (q ≡ stuck x)
    go (read n gs) h = let z : ◌≡◌ {A = ℕ} 0 1 = cc in absurd (omega arith)
    go (stuck y) h = (y, refl)

rungs_got : (p : Parse (List ListRung)) (b a : Columns) (z : Sizes) → RungsAreKept p (Some z) b a → (n : ℕ) × (gs : List ListRung) × (p ≡ read n gs) × (z ≡ sizes_of gs)
rungs_got p b a z k = go p k.same
  where
    go : (q : Parse (List ListRung)) → Some z ≡ rungs_case q → (n : ℕ) × (gs : List ListRung) × (q ≡ read n gs) × (z ≡ sizes_of gs)
    go (read n gs) h = (n, gs, refl, cc)
    go (stuck y) h = let z : ◌≡◌ {A = ℕ} 0 1 = cc in absurd (omega arith)

-- columns of the largest size
pub record Zeroed (b : Columns) : Type 0 where
  pub words : length b.words ≡ most_instructions
  pub labels : length b.labels ≡ most_records
  pub offsets : length b.offsets ≡ most_records
  pub lengths : length b.lengths ≡ most_records

-- the first entries of the columns that the lines were kept in
abbrev pub first_of : Sizes → Columns → Columns
first_of z a = record { words = take z.instructions a.words; labels = take z.rungs a.labels; offsets = take z.rungs a.offsets; lengths = take z.rungs a.lengths }

module _ (gs : List ListRung) (b a : Columns) (few : (sizes_of gs).instructions ≤ most_instructions) (fewer : (sizes_of gs).rungs ≤ most_records) (zeroed : Zeroed b) (e : a ≡ put_all b (list_columns gs)) where
  abbrev new : Columns
  new = list_columns gs

  first_is : (n : ℕ) (xs out out' : List ℕ) → n ≡ length xs → n ≤ length out → out' ≡ sets out 0 xs → take n out' ≡ xs
  first_is n xs out out' q h s = rw q (taken_out xs out out' (omega arith) s)

  first_kept : first_of (sizes_of gs) a ≡ list_columns gs
  unfolding sizes_of put_all as_buffers
  first_kept i =
      record {
        words = first_is (length (ws gs)) new.words b.words a.words refl (omega (arith, zeroed.words)) (ap (λ x. x.words) e) i;
        labels = first_is (length gs) new.labels b.labels a.labels (sym (labels_count (ws gs) (rs gs) (ns gs) ∙ records_many gs)) (omega (arith, zeroed.labels)) (ap (λ x. x.labels) e) i;
        offsets = first_is (length gs) new.offsets b.offsets a.offsets (sym (offsets_count (ws gs) (rs gs) (ns gs) ∙ records_many gs)) (omega (arith, zeroed.offsets)) (ap (λ x. x.offsets) e) i;
        lengths = first_is (length gs) new.lengths b.lengths a.lengths (sym (lengths_count (ws gs) (rs gs) (ns gs) ∙ records_many gs)) (omega (arith, zeroed.lengths)) (ap (λ x. x.lengths) e) i;
      }

-- too many instructions, or too many records
many_instructions : (vars : ℕ) (words : List ℕ) (records : List RungRecord) → most_instructions < length words → list_in_range vars words records ≡ false
unfolding list_in_range
many_instructions vars words records h = rw (lt-leb (length words) most_instructions h, and-false (leb 1 (length words))) refl

many_records : (vars : ℕ) (words : List ℕ) (records : List RungRecord) → most_records < length records → list_in_range vars words records ≡ false
unfolding list_in_range
many_records vars words records h = rw (lt-leb (length records) most_records h, and-false (leb 1 (length records))) (and-false (leb 1 (length words) && leb (length words) most_instructions))

module _ (table : List ℕ) (vars : ℕ) (text : List ℕ) (lent : Buffers) (yes14 : is_name_table table ≡ true) (yes1 : vars_in_range vars ≡ true)
    (b a : Columns) where
  pub read_stuck : RungsAreKept (list_text_of (names_in table) vars text) None b a → TranslateDone (read_list table vars text lent) (Err ListText) lent
  read_stuck k = let x = rungs_lost (list_text_of (names_in table) vars text) b a k in refused_15 table vars text lent yes14 yes1 x.0 x.1

  module _ (z : Sizes) (k : RungsAreKept (list_text_of (names_in table) vars text) (Some z) b a) where
    -- too many instructions or records
    pub read_too_many : (most_instructions < z.instructions) ⊎ ((z.instructions ≤ most_instructions) × (most_records < z.rungs))
        → TranslateDone (read_list table vars text lent) (Err ListCase) lent
    unfolding sizes_of
    read_too_many l =
        let h = rungs_got (list_text_of (names_in table) vars text) b a z k in
        let gs = h.1 in
        let m : z.instructions ≡ length (ws gs) = ap (λ (y : Sizes). y.instructions) h.3 in
        let o : z.rungs ≡ length gs = ap (λ (y : Sizes). y.rungs) h.3 in
        let n = records_many gs in
        refused_10 table vars text lent yes14 yes1 h.0 gs h.2 (elim l [
          | inl i ↦ many_instructions vars (ws gs) (rs gs) (omega arith)
          | inr j ↦ let few = j.1 in many_records vars (ws gs) (rs gs) (omega arith)
        ])

    pub read_done : z.instructions ≤ most_instructions → z.rungs ≤ most_records → Zeroed b → (x : Translated) (after : Buffers)
        → (new : Columns) → TranslateDone (hand_over vars z.longest new lent) x after → new ≡ first_of z a → TranslateDone (read_list table vars text lent) x after
    read_done few fewer zeroed x after new d first =
        let h = rungs_got (list_text_of (names_in table) vars text) b a z k in
        let gs = h.1 in
        let s = h.3 in
        let fw : (sizes_of gs).instructions ≤ most_instructions = subst (λ (y : Sizes). y.instructions ≤ most_instructions) s few in
        let fr : (sizes_of gs).rungs ≤ most_records = subst (λ (y : Sizes). y.rungs ≤ most_records) s fewer in
        let kept = k.out h.0 gs h.2 (omega arith) in
        let same : hand_over vars z.longest new lent ≡ read_list table vars text lent =
        ap (λ y. hand_over vars z.longest y lent) first
        ∙ ap (λ (y : Sizes). hand_over vars y.longest (first_of y a) lent) s
        ∙ (ap (λ y. hand_over vars (sizes_of gs).longest y lent) (first_kept gs b a fw fr zeroed kept) ∙ same_call table vars text lent yes14 yes1 h.0 gs h.2) in
        subst (λ c. TranslateDone c x after) same d

pub few_vars : (vars : ℕ) → vars_in_range vars ≡ true → vars ≤ most_variables
unfolding vars_in_range
few_vars vars e = leb→le vars most_variables (and_yes (leb 1 vars) (leb vars most_variables) (rw e tt)).1
