-- Laws of what stands for each answer of Read and of both scans. What both scans answer and leave rests on the lengths of the lent tables and timer
-- records, and not on what they held. Assumes nothing.
use Prim.Native.Nat.{ℕ, suc, ◌+◌, ◌≤◌, ◌<◌, min}
use native.Mathlib.Omega.{arith}
use mathlib.Core.Path.{◌≡◌, refl, sym, ap, ◌∙◌}
use mathlib.Core.Bool.{Bool, true, false}
use mathlib.Core.Option.{none, some}
use mathlib.Core.List.{List, [], ◌∷◌, ◌++◌, map}
use lib.Dec.{T, eqb, leb, ltb}
use lib.ListN.{length, get_or, take, drop, replicate, length-append, length-replicate}
use lib.Seq.{length-take-le, take_at}
use borrow.Author.Tests.{leb-true, leb-false, lt-ltb, ne_eqb}
use Rattle.questions.specs.Questions.{Refusal, Answer, ask, first_no, question12, question13, most_instruction_watchdog}
use Rattle.questions.specs.Refusals.{refusal_of}
use Rattle.questions.specs.Tests.{all}
use Rattle.questions.specs.declared.Refusal.{Refusal as RefusalCase}
use Rattle.questions.proofs.Laws.Answers.{vars_in_range_lem}
use Rattle.table.specs.Questions.{question11, table_in_range, question16}
use Rattle.table.specs.TimerRecords.{timers_in, number_timers}
use Rattle.table.proofs.Laws.TimerRecords.{asked_whole, whole_timers, asked_few}
use Rattle.timers.proofs.Laws.Numbers.{whole_length}
use Rattle.rungs.specs.Records.{none_entered}
use Rattle.std.specs.Prelude.{Ok, Err}
use Rattle.rungs.specs.Buffers.{Buffers, Columns, columns, first_columns, needs, written_words, written_records}
use Rattle.rungs.proofs.Laws.Filling.{labels_count, roomy}
use Rattle.ladder_definitions.specs.Kept.{Kept, kept_of}
use Rattle.ladder_definitions.specs.Questions.{ladder_of}
use Rattle.ladder_definitions.specs.LadderScan.{scan_questions}
use Rattle.ladder_definitions.proofs.Laws.Accepting.{accepted, scan_passed}
use Rattle.text_definitions.proofs.Laws.Reads.{written_room as kept_room_of}
use Rattle.text_definitions.specs.Read.{TextRead, read_text, kept, written_kept, text_read_answer, ReadDone, refused as read_refused}
use Rattle.text_definitions.specs.declared.Counts.{Counts as KeptStruct}
use Rattle.list_definitions.specs.Instruction.{instr_word}
use Rattle.translation_definitions.specs.Translate.{translate}
use Rattle.translation_definitions.specs.TranslateKept.{counts_of, list_buffers}
use Rattle.translation_definitions.specs.BothScans.{Lent, lends, BothEnds, BothAnswer, both, copy_questions, refused as both_refused}
use Rattle.translation_definitions.specs.BothScans.{both_questions, paired_watchdog, paired_scans, ends_in, BothScanned, both_scanned_answer, BothScansDone}
use Rattle.translation_definitions.specs.BothAgree.{BothGiven}
use Rattle.translation_definitions.proofs.Laws.Boths.{not_refused, long_copy, both_passed, both_ends, both_left, both_refused_lem, both_scanned}
use Rattle.translation_definitions.specs.declared.BothEnds.{BothEnds as EndsStruct}
use Rattle.noninterference.specs.Contacts.{word_contacts, left_out, unread}
use Rattle.noninterference.proofs.Theorems.{contacts_in_words}
use Rattle.program_definitions.proofs.Laws.Outcomes.{room_of, placed_within}
use Rattle.program_definitions.specs.Outcome.{Printed, printed, refused, Done, PlacedWithin}
use Rattle.program_definitions.specs.Printout.{blank}
use Rattle.program_definitions.specs.Scanout.{lent_for, most_report, report_of, report_lines, kept_scanned, text_scanned}
use Rattle.program_definitions.proofs.Theorems.{scan_output_short}

-- ---- Read

module _ (vars : ℕ) (text : List ℕ) {r : TextRead} {after : Buffers} (done : ReadDone (read_text vars text (blank 8192 256)) r after) where
  read_answer : (c : KeptStruct) → r ≡ Ok c → (read_text vars text (blank 8192 256)).answer ≡ kept c.words c.rungs
  unfolding text_read_answer
  read_answer c e = sym done.answer ∙ ap text_read_answer e

  pub read_room : (c : KeptStruct) → r ≡ Ok c → (c.words ≤ 8192) × (c.rungs ≤ 256)
  read_room c e =
      let h = kept_room_of vars text (blank 8192 256) c.words c.rungs (read_answer c e) in
      (room_of c.words 8192 0 h.0, room_of c.rungs 256 0 h.1)

  module _ (w : ℕ) (table timers : List ℕ) (now : ℕ) where
    pub read_refused_lem : (x : RefusalCase) → r ≡ Err x → text_scanned vars w table timers now text ≡ refused (refusal_of x)
    unfolding text_scanned text_read_answer
    read_refused_lem x e =
        let q : (read_text vars text (blank 8192 256)).answer ≡ read_refused (refusal_of x) = sym done.answer ∙ ap text_read_answer e in
        rw (q, text_scanned) refl

    pub read_kept : (c : KeptStruct) → r ≡ Ok c → {ws ls os ns ts : List ℕ} {cols : Columns} → cols ≡ first_columns c.words c.rungs (columns ws ls os ns)
        → ws ≡ after.words → ls ≡ after.labels → os ≡ after.offsets → ns ≡ after.lengths → ts ≡ after.times
        → text_scanned vars w table timers now text ≡ kept_scanned vars (kept_of cols.words cols.labels cols.offsets cols.lengths (take c.rungs ts)) table timers now w
    unfolding text_scanned written_kept written_words written_records
    read_kept c e f a b d g h = rw (read_answer c e, text_scanned, ← done.same_buffers, f, a, b, d, g, h) refl

-- ---- a part of an array that was lent and came back

abbrev pub zeros : ℕ → List ℕ
zeros n = replicate n 0

pub zeros_long : (n : ℕ) → length (zeros n) ≡ n
zeros_long n = length-replicate {A = ℕ} n 0

module _ (u array : List ℕ) (n : ℕ) (long : length u ≡ length (take n array)) (h : n ≤ length array) where
  back_long : length u ≡ n
  back_long = long ∙ length-take-le n array h

  pub back_room : n ≤ length (u ++ drop n array)
  back_room = let e = back_long in let a = length-append u (drop n array) in omega (arith, e, a)

  pub back_same : take n (u ++ drop n array) ≡ u
  back_same = take_at u (drop n array) n back_long

-- ---- both scans

not_none : {x : Refusal} → ◌≡◌ {A = Answer} (some x) none → ⊥
not_none q = let z : ◌≡◌ {A = ℕ} 0 1 = cc in omega arith

not_long : {vars n : ℕ} → vars ≤ 1024 → 1056 < n → n ≡ vars + 32 → ⊥
not_long h k e = omega arith

-- a table that is too long for any V is refused 11
long_table : (vars : ℕ) (table : List ℕ) → vars ≤ 1024 → 1056 < length table → question11 vars table ≡ ask 11 false
unfolding question11 table_in_range
long_table vars table h k = let e : eqb (length table) (vars + 32) ≡ false = ne_eqb _ _ (not_long h k) in rw e refl

short_table : (vars : ℕ) (table : List ℕ) → vars ≤ 1024 → question11 vars table ≡ none → length table ≤ 1056
unfolding ask
short_table vars table h e = go (leb (length table) 1056) refl
  where
    go : (b : Bool) → leb (length table) 1056 ≡ b → length table ≤ 1056
    go true q = leb-true _ _ q
    go false q = absurd (not_none (sym (long_table vars table h (leb-false _ _ q)) ∙ e))

-- timer records that are too many are refused 16
few_numbers : (vars : ℕ) (timers : List ℕ) → question16 vars (number_timers timers) ≡ none → length timers ≤ 160
few_numbers vars timers e =
    let w = asked_whole vars timers e in
    let f : length (timers_in timers) ≤ 32 = rw (whole_timers timers w) at (asked_few vars (number_timers timers) e) in
    omega (arith, whole_length timers w, f)

same_ends : {e d : BothEnds} → ◌≡◌ {A = BothAnswer} (both e) (both d) → e ≡ d
same_ends q = cc

-- a question, and what follows it
first_same : (q : Answer) (xs ys : List Answer) → (q ≡ none → first_no xs ≡ first_no ys) → first_no (q ∷ xs) ≡ first_no (q ∷ ys)
unfolding first_no
first_same (some x) xs ys h = refl
first_same none xs ys h = h refl

-- copies as long as what is copied
copies_yes : (table timers : List ℕ) (i j x y : ℕ) (later : List Answer) → i ≡ length timers → j ≡ length timers → x ≡ length table → y ≡ length table
    → first_no (copy_questions table timers i j x y ++ later) ≡ first_no later
unfolding first_no
copies_yes table timers i j x y later ei ej ex ey = rw (long_copy 16 (length timers) i ei, long_copy 16 (length timers) j ej, long_copy 11 (length table) x ex, long_copy 11 (length table) y ey) refl

-- copies of table and timer records as long as these are, but no longer than what the program holds
pub record Copies (table timers u v p q : List ℕ) : Type 0 where
  pub ladder_table_lem : length u ≡ min (length table) 1056
  pub list_table_lem : length v ≡ min (length table) 1056
  pub ladder_timers_lem : length p ≡ min (length timers) 165
  pub list_timers_lem : length q ≡ min (length timers) 165

module _ (vars : ℕ) (k : Kept) (table timers : List ℕ) (now n : ℕ) (u v p q : List ℕ) (copies : Copies table timers u v p q) where
  abbrev lent : Lent
  lent = lends u v p q (blank 16384 256)

  abbrev w : ℕ
  w = paired_watchdog vars k table timers now n

  abbrev later : List Answer
  later = question12 most_instruction_watchdog w ∷ question13 (needs (list_buffers (translate vars (ladder_of k))) (blank 16384 256)) ∷ []

  copies_same : scan_questions vars k table (number_timers timers) n ≡ none
      → first_no (copy_questions table timers (length p) (length q) (length u) (length v) ++ later) ≡ first_no (copy_questions table timers (length timers) (length timers) (length table) (length table) ++ later)
  copies_same e =
      let passed = scan_passed vars k table (number_timers timers) n e in
      let few = few_numbers vars timers passed.legal_timers in
      let short = short_table vars table (vars_in_range_lem vars (accepted vars k passed.accepted).1.range).1 passed.legal_table in
      copies_yes table timers (length p) (length q) (length u) (length v) later
      (omega (arith, few, copies.ladder_timers_lem)) (omega (arith, few, copies.list_timers_lem)) (omega (arith, short, copies.ladder_table_lem)) (omega (arith, short, copies.list_table_lem))
      ∙ sym (copies_yes table timers (length timers) (length timers) (length table) (length table) later refl refl refl refl)

  asked_same : first_no (both_questions vars k table timers lent n w) ≡ first_no (both_questions vars k table timers (lent_for table timers) n w)
  unfolding both_questions
  asked_same =
      first_same (scan_questions vars k table (number_timers timers) n) (copy_questions table timers (length p) (length q) (length u) (length v) ++ later)
      (copy_questions table timers (length timers) (length timers) (length table) (length table) ++ later) copies_same

  module _ {r : BothScanned} {after : Lent} (done : BothScansDone (paired_scans vars k table timers now lent n) r after) where
    pub scans_refused_lem : (x : RefusalCase) → r ≡ Err x → kept_scanned vars k table timers now n ≡ refused (refusal_of x)
    unfolding kept_scanned both_scanned_answer
    scans_refused_lem x e = go (first_no (both_questions vars k table timers (lent_for table timers) n w)) refl
      where
        answered : (paired_scans vars k table timers now lent n).answer ≡ both_refused (refusal_of x)
        answered = sym done.answer ∙ ap both_scanned_answer e

        go : (a : Answer) → first_no (both_questions vars k table timers (lent_for table timers) n w) ≡ a → kept_scanned vars k table timers now n ≡ refused (refusal_of x)
        go (some y) q =
            let a = ap (λ c. c.answer) (both_refused_lem vars k table timers now lent n w y (asked_same ∙ q)) in
            let z : ◌≡◌ {A = BothAnswer} (both_refused y) (both_refused (refusal_of x)) = sym a ∙ answered in
            rw (both_refused_lem vars k table timers now (lent_for table timers) n w y q, kept_scanned) cc
        go none q = absurd (not_refused (sym (ap (λ c. c.answer) (both_scanned vars k table timers now lent n w (asked_same ∙ q))) ∙ answered))

    module _ (e : EndsStruct) (scanned : r ≡ Ok e) where
      answered : (paired_scans vars k table timers now lent n).answer ≡ both (ends_in e)
      unfolding both_scanned_answer
      answered = sym done.answer ∙ ap both_scanned_answer scanned

      all_yes : first_no (both_questions vars k table timers lent n w) ≡ none
      all_yes = go (first_no (both_questions vars k table timers lent n w)) refl
        where
          go : (a : Answer) → first_no (both_questions vars k table timers lent n w) ≡ a → a ≡ none
          go none z = refl
          go (some y) z = absurd (not_refused (sym answered ∙ ap (λ c. c.answer) (both_refused_lem vars k table timers now lent n w y z)))

      given : BothGiven vars k table timers lent n
      given = (both_passed vars k table timers now lent n w all_yes).0

      pub scans_vars : vars ≤ 1024
      scans_vars = (vars_in_range_lem vars (accepted vars k given.given.accepted).1.range).1

      pub scans_timers : length timers ≤ 160
      scans_timers = few_numbers vars timers given.given.timers_legal

      abbrev m : ℕ
      m = e.counts.rungs

      ends_same : ends_in e ≡ both_ends vars k table timers now lent n w
      ends_same = same_ends (sym answered ∙ ap (λ c. c.answer) (both_scanned vars k table timers now lent n w all_yes))

      rungs_same : m ≡ (both_ends vars k table timers now lent n w).counts.rungs
      unfolding ends_in
      rungs_same = ap (λ (d : BothEnds). d.counts.rungs) ends_same

      -- the list's records have room
      pub scans_room : m ≤ 256
      unfolding both_ends counts_of
      scans_room =
          let list = translate vars (ladder_of k) in
          let room = (roomy (list_buffers list) (blank 16384 256) given.given.room).labels in
          let many = labels_count (map instr_word list.code) list.records (none_entered (length list.records)) in
          omega (arith, room, many, rungs_same, length-replicate {A = ℕ} 256 0)

      pub scans_reported : (x y i j : List ℕ) → x ≡ after.ladder_table → y ≡ after.list_table → i ≡ after.ladder_timers → j ≡ after.list_timers
          → kept_scanned vars k table timers now n ≡ printed (report_of vars (left_out (word_contacts k.words) 0 vars) table timers (ends_in e) (take m after.buffers.labels) (take m after.buffers.times) x y i j)
      unfolding kept_scanned report_lines unread both_ends both_left
      scans_reported x y i j ex ey ei ej =
          let l = done.same_lent ∙ ap (λ c. c.lent) (both_scanned vars k table timers now lent n w all_yes) in
          let theirs = both_scanned vars k table timers now (lent_for table timers) n w (sym asked_same ∙ all_yes) in
          rw (theirs, kept_scanned, theirs, contacts_in_words vars k given.given.accepted, ex, ey, ei, ej, ends_same, rungs_same, l) refl

-- ---- numbers of 32 bits

pub all_ticks : (ns : List ℕ) → ((k : ℕ) → get_or ns k 0 < 4294967296) → T (all (λ x. ltb x 4294967296) ns)
all_ticks [] h = tt
all_ticks (x ∷ xs) h = rw (lt-ltb x 4294967296 (h 0)) (all_ticks xs (λ k. h (suc k)))

-- a report of them fits its buffer
pub report_within : (vars n : ℕ) (table timers : List ℕ) (now : ℕ) (text before : List ℕ) (r : Printed) (after : List ℕ) → ((k : ℕ) → get_or timers k 0 < 4294967296)
    → now < 4294967296 → Done (text_scanned vars n table timers now text) before r after
    → Done (text_scanned vars n table timers now text) before r after × PlacedWithin most_report r
report_within vars n table timers now text before r after h k d =
    (d, placed_within (text_scanned vars n table timers now text) most_report (λ t. scan_output_short vars n table timers now text t (all_ticks timers h) k) before r after d)
