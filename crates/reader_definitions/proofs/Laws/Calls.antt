-- The calls, one after the other: Listing and then the reader, the reader and then Listing. Assumes nothing.
use Rattle.std.specs.Prelude.{ℕ, ◌≤◌, List, [], ◌∷◌, ◌++◌, T, drop}
use Rattle.std.proofs.Common.{arith, sym, ◌∙◌, le→leb}
use Rattle.std.proofs.Math.Path.{◌≡◌, refl, ap}
use Rattle.std.proofs.Math.Option.{none, some}
use Rattle.std.proofs.Math.ListN.{length, take}
use Rattle.std.proofs.lemmas.List.{length-map}
use Rattle.std.proofs.Math.Seq.{take-append_seam}
use Rattle.questions.specs.Tests.{all}
use Rattle.questions.specs.Questions.{Refusal, Answer, first_no, question1, long_enough, question13}
use Rattle.questions.proofs.Laws.Tests.{all_one}
use Rattle.questions.proofs.Laws.Answers.{passed_ask, first_yes, later_yes, vars_in_range_lem}
use Rattle.rungs.specs.Words.{is_operand}
use Rattle.rungs.specs.Records.{RungRecord, longest, none_entered}
use Rattle.rungs.specs.Buffers.{Buffers, as_buffers, new_buffers, needs, written, written_over, written_words, written_records}
use Rattle.rungs.proofs.Laws.Filling.{first_written, row_of_new, labels_count, offsets_count, lengths_count, times_count}
use Rattle.text_grammar.specs.Reader.{Parse, read, stuck}
use Rattle.list_definitions.specs.Instruction.{instr_word}
use Rattle.list_definitions.specs.Machine.{InstructionList}
use Rattle.list_definitions.specs.Names.{names_in, question14}
use Rattle.list_definitions.specs.ListScan.{list_of}
use Rattle.list_definitions.specs.Questions.{question10}
use Rattle.list_definitions.specs.Listing.{listing_text, listing, written as written_answer, refused as refused_listing}
use Rattle.translation_definitions.specs.TranslateKept.{Counts, counts_of, list_buffers, translated, refused, list_written}
use Rattle.translation_definitions.proofs.Laws.Answers.{not_both, same_counts}
use Rattle.reader_definitions.specs.Form.{ListRung, IsListText, list_of_rungs}
use Rattle.reader_definitions.specs.Reader.{list_text_of}
use Rattle.reader_definitions.specs.ReadList.{question15, rungs_of, list_read, words_of, read_questions, read_list}
use Rattle.reader_definitions.proofs.Laws.Search.{good_table}
use Rattle.reader_definitions.proofs.Laws.Sound.{sound}
use Rattle.reader_definitions.proofs.Laws.Complete.{complete}
use Rattle.reader_definitions.proofs.Laws.Printed.{text_ranged}
use Rattle.reader_definitions.proofs.Laws.Lists.{rungs_in}
use Rattle.reader_definitions.proofs.Laws.Whole.{prints_again, code_fits, list_of_words, reads_back}

-- ---- what the reader wrote, taken out again

module _ (l : InstructionList) (lent : Buffers) where
  pub words_out : written_words (written_over (list_buffers l) lent) (counts_of l).instructions ≡ words_of l
  unfolding written_words written_over counts_of as_buffers
  words_out = first_written (length l.code) (words_of l) lent.words (length-map l.code instr_word)

  pub records_out : written_records (written_over (list_buffers l) lent) (counts_of l).rungs ≡ l.records
  unfolding written_records written_over counts_of
  records_out =
      let words = words_of l in
      let rs = l.records in
      let n = length rs in
      let new = new_buffers words rs in
      let none = none_entered n in
      let ls : take n (written new.labels lent.labels) ≡ new.labels = first_written n new.labels lent.labels (labels_count words rs none) in
      let os : take n (written new.offsets lent.offsets) ≡ new.offsets = first_written n new.offsets lent.offsets (offsets_count words rs none) in
      let ns : take n (written new.lengths lent.lengths) ≡ new.lengths = first_written n new.lengths lent.lengths (lengths_count words rs none) in
      let ts : take n (written new.times lent.times) ≡ new.times = first_written n new.times lent.times (times_count words rs) in
      rw (ls, os, ns, ts) (row_of_new words rs)

-- ---- the questions of a call that was not refused

module _ (table : List ℕ) (vars : ℕ) (words : List ℕ) (rs : List RungRecord) (out : List ℕ) where
  abbrev text : List ℕ
  text = listing_text (names_in table) vars (list_of words rs)

  listing_answer : Answer
  listing_answer = first_no (question14 table ∷ question1 vars ∷ question10 vars words rs ∷ question13 (record { needed = length text; lent = length out } ∷ []) ∷ [])

  pub listing_yes : question14 table ≡ none → question1 vars ≡ none → question10 vars words rs ≡ none → length text ≤ length out
      → listing table vars words rs out ≡ record { answer = written_answer (length text); buffer = text ++ drop (length text) out }
  unfolding listing listing_answer first_no question13 long_enough
  listing_yes a b c h =
      let d : question13 (record { needed = length text; lent = length out } ∷ []) ≡ none = passed_ask 13 _ (all_one long_enough _ (le→leb (length text) (length out) h)) in
      let e : listing_answer ≡ none = rw (a, b, c, d) refl in
      rw (e, listing)

  pub record ListingYes (n : ℕ) : Type 0 where
    pub table_accepted : question14 table ≡ none
    pub vars_accepted : question1 vars ≡ none
    pub list_accepted : question10 vars words rs ≡ none
    pub bytes : n ≡ length text
    pub wrote : (listing table vars words rs out).buffer ≡ text ++ drop (length text) out

  pub yes_listing : (n : ℕ) → (listing table vars words rs out).answer ≡ written_answer n → ListingYes n
  unfolding listing listing_answer
  yes_listing n h = go listing_answer refl
    where
      go : (x : Answer) → listing_answer ≡ x → ListingYes n
      go (some refusal) e =
          let z : (listing table vars words rs out).answer ≡ refused_listing refusal = rw (e, listing) in
          let y : ◌≡◌ {A = ℕ} 0 1 = cc in
          absurd (omega arith)
      go none e =
          let z : (listing table vars words rs out).answer ≡ written_answer (length text) = rw (e, listing) in
          let later = later_yes _ _ e in
          record {
            table_accepted = first_yes _ _ e;
            vars_accepted = first_yes _ _ later;
            list_accepted = first_yes _ _ (later_yes _ _ later);
            bytes = cc;
            wrote = rw (e, listing);
          }

  -- what stands in the buffer up to the answer's count is the text
  pub listing_taken : (n : ℕ) → ListingYes n → take n (listing table vars words rs out).buffer ≡ text
  listing_taken n y = rw (y.bytes, y.wrote) (take-append_seam text (drop (length text) out))

module _ (table : List ℕ) (vars : ℕ) (text : List ℕ) (lent : Buffers) where
  abbrev list : InstructionList
  list = list_read table vars text

  pub read_yes : read_questions table vars text lent ≡ none → read_list table vars text lent ≡ record { answer = translated (counts_of list); buffers = written_over (list_buffers list) lent }
  unfolding read_list list_written
  read_yes e = rw (e, read_list)

  pub read_no : (refusal : Refusal) → read_questions table vars text lent ≡ some refusal → read_list table vars text lent ≡ record { answer = refused refusal; buffers = lent }
  unfolding read_list list_written
  read_no refusal e = rw (e, read_list)

  pub all_yes : question14 table ≡ none → question1 vars ≡ none → question15 table vars text ≡ none → question10 vars (words_of list) list.records ≡ none
      → question13 (needs (list_buffers list) lent) ≡ none → read_questions table vars text lent ≡ none
  unfolding read_questions first_no
  all_yes a b c d f = rw (a, b, c, d, f) refl

  pub record ReadYes (c : Counts) : Type 0 where
    pub table_accepted : question14 table ≡ none
    pub vars_accepted : question1 vars ≡ none
    pub form_accepted : question15 table vars text ≡ none
    pub list_accepted : question10 vars (words_of list) list.records ≡ none
    pub counts : c ≡ counts_of list
    pub wrote : (read_list table vars text lent).buffers ≡ written_over (list_buffers list) lent

  pub yes_read : (c : Counts) → (read_list table vars text lent).answer ≡ translated c → ReadYes c
  unfolding read_questions
  yes_read c h = go (read_questions table vars text lent) refl
    where
      go : (x : Answer) → read_questions table vars text lent ≡ x → ReadYes c
      go (some refusal) e = absurd (not_both c refusal (sym h ∙ ap (λ t. t.answer) (read_no refusal e)))
      go none e =
          let done = read_yes e in
          let l1 = later_yes _ _ e in
          let l2 = later_yes _ _ l1 in
          record {
            table_accepted = first_yes _ _ e;
            vars_accepted = first_yes _ _ l1;
            form_accepted = first_yes _ _ l2;
            list_accepted = first_yes _ _ (later_yes _ _ l2);
            counts = same_counts (sym h ∙ ap (λ t. t.answer) done);
            wrote = ap (λ t. t.buffers) done;
          }

-- question 15, and the rungs of a text
pub form_read : (table : List ℕ) (vars : ℕ) (text : List ℕ) (n : ℕ) (gs : List ListRung) → list_text_of (names_in table) vars text ≡ read n gs
    → (question15 table vars text ≡ none) × (rungs_of table vars text ≡ gs)
unfolding question15 rungs_of
form_read table vars text n gs e = (rw (e, question15), rw (e, rungs_of))

pub read_form : (table : List ℕ) (vars : ℕ) (text : List ℕ) → question1 vars ≡ none → question15 table vars text ≡ none → IsListText (names_in table) vars text (rungs_of table vars text)
unfolding question15
read_form table vars text e1 h = go (list_text_of (names_in table) vars text) refl
  where
    go : (x : Parse (List ListRung)) → list_text_of (names_in table) vars text ≡ x → IsListText (names_in table) vars text (rungs_of table vars text)
    go (read n gs) e = rw (form_read table vars text n gs e).1 (sound (names_in table) vars text n gs (vars_in_range_lem vars e1).1 e).1
    go (stuck p) e =
        let z : question15 table vars text ≡ some (record { number = 15; place = 0 }) = rw (e, question15) in
        let y : ◌≡◌ {A = ℕ} 0 1 = cc in
        absurd (omega arith)

-- ---- Listing, then the reader

-- the text of an accepted list, read: its list is the list
record TextRead (table : List ℕ) (vars : ℕ) (words : List ℕ) (rs : List RungRecord) (printed : List ℕ) : Type 0 where
  in_form : question15 table vars printed ≡ none
  same : list_read table vars printed ≡ list_of words rs
  same_words : words_of (list_read table vars printed) ≡ words

text_read : (table : List ℕ) (vars : ℕ) (words : List ℕ) (rs : List RungRecord) → T (all (λ r. is_operand r.label) rs)
    → question14 table ≡ none → question1 vars ≡ none → question10 vars words rs ≡ none → TextRead table vars words rs (listing_text (names_in table) vars (list_of words rs))
text_read table vars words rs labels a b c =
    let printed = listing_text (names_in table) vars (list_of words rs) in
    let back = reads_back (names_in table) vars words rs b c labels in
    let few = (vars_in_range_lem vars b).1 in
    let f = form_read table vars printed (length printed) (rungs_in (list_of words rs)) (complete (good_table table a) few back.in_form) in
    let same : list_read table vars printed ≡ list_of words rs = ap list_of_rungs f.1 ∙ back.same_list in
    record { in_form = f.0; same = same; same_words = ap words_of same ∙ back.same_words }

records_of_lem : (words : List ℕ) (rs : List RungRecord) → (list_of words rs).records ≡ rs
unfolding list_of
records_of_lem words rs = refl

counts_of_lem : (l : InstructionList) (words : List ℕ) (rs : List RungRecord) → words_of l ≡ words → l.records ≡ rs
    → counts_of l ≡ record { instructions = length words; rungs = length rs; longest = longest rs }
unfolding counts_of
counts_of_lem l words rs e f = let n : length l.code ≡ length words = sym (length-map l.code instr_word) ∙ ap length e in rw (n, f) refl

pub read_back : (table : List ℕ) (vars : ℕ) (words : List ℕ) (rs : List RungRecord) (out : List ℕ) (n : ℕ) (lent : Buffers)
    → T (all (λ r. is_operand r.label) rs) → (listing table vars words rs out).answer ≡ written_answer n → question13 (needs (new_buffers words rs) lent) ≡ none
    → read_list table vars (take n (listing table vars words rs out).buffer) lent
    ≡ record { answer = translated (record { instructions = length words; rungs = length rs; longest = longest rs }); buffers = written_over (new_buffers words rs) lent }
read_back table vars words rs out n lent labels h room =
    let y = yes_listing table vars words rs out n h in
    let printed = listing_text (names_in table) vars (list_of words rs) in
    let t = text_read table vars words rs labels y.table_accepted y.vars_accepted y.list_accepted in
    let l = list_read table vars printed in
    let same_words : words_of l ≡ words = t.same_words in
    let same_records : l.records ≡ rs = ap (λ l. l.records) t.same ∙ records_of_lem words rs in
    let asked = all_yes table vars printed lent y.table_accepted y.vars_accepted t.in_form (rw (same_words, same_records) y.list_accepted) (rw (same_words, same_records) room) in
    let done = read_yes table vars printed lent asked in
    rw (listing_taken table vars words rs out n y) (done ∙ rw (counts_of_lem l words rs same_words same_records, same_words, same_records) refl)

-- two lists that are printed alike are one
pub one_list : (table : List ℕ) (vars : ℕ) (words words' : List ℕ) (rs rs' : List RungRecord) (out out' : List ℕ) (n n' : ℕ)
    → T (all (λ r. is_operand r.label) rs) → T (all (λ r. is_operand r.label) rs')
    → (listing table vars words rs out).answer ≡ written_answer n → (listing table vars words' rs' out').answer ≡ written_answer n'
    → take n (listing table vars words rs out).buffer ≡ take n' (listing table vars words' rs' out').buffer
    → (words ≡ words') × (rs ≡ rs')
one_list table vars words words' rs rs' out out' n n' labels labels' h h' e =
    let y = yes_listing table vars words rs out n h in
    let y' = yes_listing table vars words' rs' out' n' h' in
    let t = text_read table vars words rs labels y.table_accepted y.vars_accepted y.list_accepted in
    let t' = text_read table vars words' rs' labels' y'.table_accepted y'.vars_accepted y'.list_accepted in
    let texts : listing_text (names_in table) vars (list_of words rs) ≡ listing_text (names_in table) vars (list_of words' rs') =
    sym (listing_taken table vars words rs out n y) ∙ (e ∙ listing_taken table vars words' rs' out' n' y') in
    let reads : list_read table vars (listing_text (names_in table) vars (list_of words rs)) ≡ list_read table vars (listing_text (names_in table) vars (list_of words' rs')) = ap (list_read table vars) texts in (
      sym t.same_words ∙ (ap words_of reads ∙ t'.same_words),
      sym (records_of_lem words rs) ∙ (ap (λ l. l.records) (sym t.same ∙ (reads ∙ t'.same)) ∙ records_of_lem words' rs'),
    )

-- ---- the reader, then Listing

pub print_again : (table : List ℕ) (vars : ℕ) (text : List ℕ) (lent : Buffers) (c : Counts) (out : List ℕ) → (read_list table vars text lent).answer ≡ translated c → length text ≤ length out
    → listing table vars (written_words (read_list table vars text lent).buffers c.instructions) (written_records (read_list table vars text lent).buffers c.rungs) out
    ≡ record { answer = written_answer (length text); buffer = text ++ drop (length text) out }
print_again table vars text lent c out h room =
    let y = yes_read table vars text lent c h in
    let l = list_read table vars text in
    let words = words_of l in
    let rs = l.records in
    let few = (vars_in_range_lem vars y.vars_accepted).1 in
    let form = read_form table vars text y.vars_accepted y.form_accepted in
    let same : list_of words rs ≡ l = list_of_words l (code_fits vars (rungs_of table vars text) (text_ranged few form).1) in
    let printed : listing_text (names_in table) vars (list_of words rs) ≡ text = ap (listing_text (names_in table) vars) same ∙ prints_again (names_in table) vars text (rungs_of table vars text) form in
    let done = listing_yes table vars words rs out y.table_accepted y.vars_accepted y.list_accepted (rw printed room) in
    rw (y.wrote, y.counts, words_out l lent, records_out l lent) (done ∙ rw printed refl)
