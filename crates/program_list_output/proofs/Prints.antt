-- Laws of what an answer of Listing, Translate or Read comes to: the refusal, or what was written, which has room; and of the whole input. Assumes nothing.
use Prim.Native.Nat.{ℕ, ◌+◌, ◌-◌, ◌*◌, ◌≤◌, min}
use native.Mathlib.Omega.{arith}
use mathlib.Core.Path.{◌≡◌, refl, sym, ap, subst, ◌∙◌}
use mathlib.Core.Option.{none, some}
use mathlib.Core.List.{List, [], ◌∷◌}
use lib.Dec.{leb, leb→le}
use mir.Facts.{and_yes}
use lib.ListN.{length, take, drop, replicate}
use lib.Seq.{length-take-le}
use Rattle.questions.specs.Tests.{all}
use Rattle.questions.specs.Questions.{Answer, Refusal, first_no, long_enough, question1, question13}
use Rattle.questions.proofs.Laws.Answers.{ask_passed, first_yes, later_yes}
use Rattle.questions.specs.Refusals.{refusal_of}
use Rattle.questions.specs.declared.Refusal.{Refusal as RefusalCase}
use Rattle.rungs.specs.Records.{RungRecord, row_of}
use Rattle.std.specs.Prelude.{Ok, Err}
use Rattle.rungs.specs.Buffers.{Buffers, Columns, columns, first_columns, written_words, written_records}
use Rattle.ladder_definitions.specs.Kept.{Kept, kept_of}
use Rattle.list_definitions.specs.Questions.{question10}
use Rattle.list_definitions.specs.ListScan.{list_of}
use Rattle.list_definitions.specs.Names.{name_bytes, most_op, names_in, fixed_table, question14}
use Rattle.list_definitions.specs.Listing.{Listed, ListingAnswer, written, listing, listing_text, ListingDone, refused as listing_refused, listed_answer}
use Rattle.translation_definitions.specs.TranslateKept.{Translated, Counts, translated, translate_kept, counts_in, TranslateDone, refused as translate_refused, translated_answer}
use Rattle.translation_definitions.proofs.Laws.Answers.{written_room}
use Rattle.translation_definitions.specs.declared.Counts.{Counts as CountsStruct}
use Rattle.text_definitions.specs.Read.{TextRead, kept, read_text, written_kept, ReadDone, refused as read_refused, text_read_answer}
use Rattle.text_definitions.proofs.Laws.Reads.{written_room as kept_room_of}
use Rattle.text_definitions.specs.declared.Counts.{Counts as KeptStruct}
use Rattle.list_names.specs.Parts.{FixedNamesPut}
use Rattle.printing.specs.Put.{Put}
use Rattle.printing.proofs.Laws.Puts.{put_then}
use Rattle.program_definitions.specs.Lines.{first_line, text_after, variables_of, most_kept}
use Rattle.program_definitions.specs.Outcome.{Outcome, Printed, Done}
use Rattle.program_definitions.specs.Printout.{count_line, blank, list_printed, kept_printed, text_printed, outcome}
use Rattle.program_definitions.proofs.Laws.Outcomes.{text_done, refusal_done, room_of}
use Rattle.program_numbers.specs.Parts.{number_by, NumberTaken}
use Rattle.program_numbers.specs.declared.Lined.{Lined}
use Rattle.program_numbers.proofs.Lines.{line_value, kept_text}

-- ---- Listing

one_roomy : (needed lent : ℕ) → question13 (record { needed = needed; lent = lent } ∷ []) ≡ none → needed ≤ lent
unfolding question13 long_enough
one_roomy needed lent e = leb→le _ _ (and_yes (leb needed lent) _ (ask_passed 13 _ e)).0

not_listed : (n : ℕ) (x : Refusal) → ◌≡◌ {A = ListingAnswer} (written n) (listing_refused x) → ⊥
not_listed n x e = let z : ◌≡◌ {A = ℕ} 0 1 = cc in omega arith

same_listed : {n m : ℕ} → ◌≡◌ {A = ListingAnswer} (written n) (written m) → n ≡ m
same_listed e = cc

module _ (vars : ℕ) (words : List ℕ) (rs : List RungRecord) (out : List ℕ) where
  abbrev text : List ℕ
  text = listing_text (names_in fixed_table) vars (list_of words rs)

  abbrev asked_list : Answer
  asked_list = first_no (question14 fixed_table ∷ question1 vars ∷ question10 vars words rs ∷ question13 (record { needed = length text; lent = length out } ∷ []) ∷ [])

  list_refused_by : (x : Refusal) → asked_list ≡ some x → (listing fixed_table vars words rs out).answer ≡ listing_refused x
  unfolding listing
  list_refused_by x e = rw (e, listing)

  list_written_by : asked_list ≡ none → (listing fixed_table vars words rs out).answer ≡ written (length text)
  unfolding listing
  list_written_by e = rw (e, listing)

  listed_room : (n : ℕ) → (listing fixed_table vars words rs out).answer ≡ written n → n ≤ length out
  listed_room n e = go asked_list refl
    where
      go : (a : Answer) → asked_list ≡ a → n ≤ length out
      go (some y) q = absurd (not_listed n y (sym e ∙ list_refused_by y q))
      go none q =
          let s : length text ≡ n = same_listed (sym (list_written_by q) ∙ e) in
          let h = one_roomy (length text) (length out) (first_yes _ _ (later_yes _ _ (later_yes _ _ (later_yes _ _ q)))) in
          subst (λ k. k ≤ length out) s h

-- Listing got the fixed table
pub with_fixed : {before table : List ℕ} → FixedNamesPut before table → length before ≡ name_bytes * most_op → (vars : ℕ) (words : List ℕ) (rs : List RungRecord) (out : List ℕ) {r : Listed} {buffer : List ℕ}
    → ListingDone (listing table vars words rs out) r buffer → ListingDone (listing fixed_table vars words rs out) r buffer
with_fixed put e vars words rs out {r} {buffer} done = subst (λ table. ListingDone (listing table vars words rs out) r buffer) (put.whole e) done

module _ (vars : ℕ) (words : List ℕ) (rs : List RungRecord) {r : Listed} {buffer : List ℕ}
    (done : ListingDone (listing fixed_table vars words rs (replicate 65536 0)) r buffer) where
  module _ (x : RefusalCase) (e : r ≡ Err x) where
    list_refusal : (listing fixed_table vars words rs (replicate 65536 0)).answer ≡ listing_refused (refusal_of x)
    unfolding listed_answer
    list_refusal = sym done.answer ∙ ap listed_answer e

    pub list_refused_lem : (counts : Counts) (l : List ℕ) → Done (list_printed vars words rs counts) l (Err x) l
    unfolding list_printed
    list_refused_lem counts l = rw (list_refusal, list_printed) (refusal_done x l refl)

  module _ (n : ℕ) (e : r ≡ Ok n) where
    list_answer_lem : (listing fixed_table vars words rs (replicate 65536 0)).answer ≡ written n
    unfolding listed_answer
    list_answer_lem = sym done.answer ∙ ap listed_answer e

    pub list_room : n ≤ 65536
    list_room = room_of n 65536 0 (listed_room vars words rs (replicate 65536 0) n list_answer_lem)

    pub list_long : length buffer ≡ 65536 → length (take n buffer) ≤ 65536
    list_long h = omega (arith, length-take-le n buffer (omega (arith, list_room, h)), list_room)

    pub list_written_lem : (counts : Counts) {l : List ℕ} {m p : ℕ} {x y : List ℕ} → Put l 0 (take n buffer) m x → Put x m (count_line counts) p y
        → Done (list_printed vars words rs counts) l (Ok p) y
    unfolding list_printed
    list_written_lem counts p q = rw (list_answer_lem, list_printed, ← done.same_buffer) (text_done refl (put_then p q))

-- ---- Translate

module _ (vars : ℕ) (k : Kept) {r : Translated} {after : Buffers} (done : TranslateDone (translate_kept vars k (blank 16384 256)) r after) where
  module _ (x : RefusalCase) (e : r ≡ Err x) where
    pub kept_refusal : (translate_kept vars k (blank 16384 256)).answer ≡ translate_refused (refusal_of x)
    unfolding translated_answer
    kept_refusal = sym done.answer ∙ ap translated_answer e

    pub kept_refused : (l : List ℕ) → Done (kept_printed vars k) l (Err x) l
    unfolding kept_printed
    kept_refused l = rw (kept_refusal, kept_printed) (refusal_done x l refl)

  module _ (c : CountsStruct) (e : r ≡ Ok c) where
    pub kept_answer : (translate_kept vars k (blank 16384 256)).answer ≡ translated (counts_in c)
    unfolding translated_answer
    kept_answer = sym done.answer ∙ ap translated_answer e

    pub kept_room : (c.instructions ≤ 16384) × (c.rungs ≤ 256)
    kept_room =
        let h = written_room vars k (blank 16384 256) (counts_in c) kept_answer in
        (room_of c.instructions 16384 0 h.0, room_of c.rungs 256 0 h.1)

    pub kept_listed : {ws ls os ns ts : List ℕ} {cols : Columns} → cols ≡ first_columns c.instructions c.rungs (columns ws ls os ns)
        → ws ≡ after.words → ls ≡ after.labels → os ≡ after.offsets → ns ≡ after.lengths → ts ≡ after.times → (l : List ℕ) (p : Printed) (y : List ℕ)
        → Done (list_printed vars cols.words (row_of cols.labels cols.offsets cols.lengths (take c.rungs ts)) (counts_in c)) l p y
        → Done (kept_printed vars k) l p y
    unfolding kept_printed written_words written_records
    kept_listed e w a o n t l p y d = rw (kept_answer, kept_printed, ← done.same_buffers) (rw (e, w, a, o, n, t) at d)

-- ---- Read

module _ (vars : ℕ) (s : List ℕ) {r : TextRead} {after : Buffers} (done : ReadDone (read_text vars s (blank 8192 256)) r after) where
  module _ (x : RefusalCase) (e : r ≡ Err x) where
    pub read_refusal : (read_text vars s (blank 8192 256)).answer ≡ read_refused (refusal_of x)
    unfolding text_read_answer
    read_refusal = sym done.answer ∙ ap text_read_answer e

    pub read_refused_lem : (l : List ℕ) → Done (text_printed vars s) l (Err x) l
    unfolding text_printed
    read_refused_lem l = rw (read_refusal, text_printed) (refusal_done x l refl)

  module _ (c : KeptStruct) (e : r ≡ Ok c) where
    pub read_answer : (read_text vars s (blank 8192 256)).answer ≡ kept c.words c.rungs
    unfolding text_read_answer
    read_answer = sym done.answer ∙ ap text_read_answer e

    pub read_room : (c.words ≤ 8192) × (c.rungs ≤ 256)
    read_room =
        let h = kept_room_of vars s (blank 8192 256) c.words c.rungs read_answer in
        (room_of c.words 8192 0 h.0, room_of c.rungs 256 0 h.1)

    pub read_kept : {ws ls os ns ts : List ℕ} {cols : Columns} → cols ≡ first_columns c.words c.rungs (columns ws ls os ns)
        → ws ≡ after.words → ls ≡ after.labels → os ≡ after.offsets → ns ≡ after.lengths → ts ≡ after.times → (l : List ℕ) (p : Printed) (y : List ℕ)
        → Done (kept_printed vars (kept_of cols.words cols.labels cols.offsets cols.lengths (take c.rungs ts))) l p y
        → Done (text_printed vars s) l p y
    unfolding text_printed written_kept written_words written_records
    read_kept e w a o n t l p y d = rw (read_answer, text_printed, ← done.same_buffers) (rw (e, w, a, o, n, t) at d)

-- ---- the whole input

pub run_done : (input : List ℕ) (r : Lined) → NumberTaken input 0 r → (v : ℕ) → v ≡ number_by 0 r.line → (to : ℕ) → to ≡ r.at + min (length input - r.at) most_kept
    → (l x : List ℕ) (p : Printed) → Done (text_printed v (take (to - r.at) (drop r.at input))) l p x → Done (outcome input) l p x
unfolding outcome
run_done input r t v w to e l x p d =
    let q : v ≡ variables_of (first_line input) = w ∙ (ap (number_by 0) t.line ∙ line_value 0 (first_line input)) in
    subst (λ (o : Outcome). Done o l p x)
    (ap (λ (y : ℕ). text_printed y (take (to - r.at) (drop r.at input))) q
    ∙ ap (text_printed (variables_of (first_line input))) (kept_text most_kept input (text_after input) r.at to t.rest e)) d
