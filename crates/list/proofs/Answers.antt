-- Laws of the questions in order: the first "no" of the calls. Assumes nothing.
use Rattle.std.specs.Prelude.{Ok, Err}
use Prim.Native.Nat.{ℕ, ◌+◌, ◌*◌, ◌/◌, ◌≤◌, ◌<◌}
use native.Mathlib.Nat.{zero-add}
use native.Mathlib.Omega.{arith}
use mathlib.Core.Path.{◌≡◌, refl, sym, ap, ◌∙◌}
use mathlib.Core.Bool.{Bool, true, false, ◌&&◌, and-false}
use mathlib.Core.Option.{none, some}
use mathlib.Core.List.{List, [], ◌∷◌}
use lib.Dec.{T, eqb, leb, eqb→eq}
use mir.Facts.{and_yes}
use lib.ListN.{length}
use lib.Seq.{sets-eq}
use borrow.Author.Tests.{le-leb, lt-leb}
use Rattle.questions.specs.Questions.{Answer, ask, first_no, vars_in_range, question1, question12, most_instruction_watchdog, long_enough, question13}
use Rattle.questions.specs.Tests.{all, different}
use Rattle.questions.specs.Bytes.{same_bytes}
use Rattle.questions.specs.Refusals.{refusal_of, verdict_answer}
use Rattle.questions.specs.declared.Refusal.{Refusal as RefusalCase}
use Rattle.questions.specs.declared.Refusal.TheVariants.{Variables, List as ListCase, Table, Watchdog, Buffer as BufferCase, Timers, TimerNumber}
use Rattle.table.specs.State.{state_of}
use Rattle.table.specs.Questions.{table_in_range, question11, timers_in_range, question16}
use Rattle.table.specs.TimerRecords.{too_many, timers_in, whole, number_timers, numbers_after}
use Rattle.timers.proofs.Laws.Columns.{too_many_lem}
use Rattle.table.proofs.Laws.TimerRecords.{whole_timers}
use Rattle.timers.proofs.Laws.Numbers.{whole_back, same_whole, whole_length, numbers_after_lem, numbers_left}
use Rattle.rungs.specs.Records.{RungRecord, fields_of, row_of}
use Rattle.rungs.proofs.Laws.Rows.{Even, row_even, row_offsets, row_fields, row_uneven, row_times}
use Rattle.questions.proofs.Laws.Answers.{ask_passed, first_yes, later_yes}
use Rattle.questions.proofs.Laws.Tests.{T→true}
use Rattle.list_definitions.specs.Instruction.{code_of}
use Rattle.list_definitions.specs.Names.{most_op, name_bytes, names_in, is_name, is_name_table, question14}
use Rattle.list_definitions.specs.Listing.{listing_text, listing, listed_answer, ListingDone}
use Rattle.printing.specs.Put.{Put}
use Rattle.list_machine.specs.Parts.{Ran}
use Rattle.list_machine.proofs.Laws.Scans.{scan_in_range, scan_scans}
use Rattle.list_questions.specs.Parts.{TimersAsked}
use Rattle.list_definitions.proofs.Laws.Answers.{scan_passed}
use Rattle.list_definitions.proofs.Laws.InRange.{list_in_range_lem}
use Rattle.list_definitions.proofs.Laws.Refusing.{first_accepted, names_accepted, scan_refuses}
use Rattle.list_definitions.specs.Questions.{most_instructions, list_in_range, question10, timers_known, question17, list_answer}
use Rattle.table.specs.declared.Halt.{Halt as HaltCase}
use Rattle.list_definitions.specs.declared.Counts.{Counts as CountsStruct}
use Rattle.list_definitions.specs.ListScan.{list_of, scan_questions, call_list_scan, ListScanDone, ListScanNumbers}

-- questions 1 and 10
module _ (vars : ℕ) (ws : List ℕ) (rs : List RungRecord) where
  pub refused_variables : vars_in_range vars ≡ false → verdict_answer (Err Variables) ≡ list_answer vars ws rs
  unfolding verdict_answer refusal_of list_answer first_no question1 ask
  refused_variables e = rw e

  pub refused_list : vars_in_range vars ≡ true → list_in_range vars ws rs ≡ false → verdict_answer (Err ListCase) ≡ list_answer vars ws rs
  unfolding verdict_answer refusal_of list_answer first_no question1 question10 ask
  refused_list e f = rw (e, f)

  pub accepted_list : vars_in_range vars ≡ true → list_in_range vars ws rs ≡ true → verdict_answer (Ok tt) ≡ list_answer vars ws rs
  unfolding verdict_answer list_answer first_no question1 question10 ask
  accepted_list e f = rw (e, f)

-- no records are no list
none_in_range : (vars : ℕ) (ws : List ℕ) → list_in_range vars ws [] ≡ false
unfolding list_in_range
none_in_range vars ws = and-false (leb 1 (length ws) && leb (length ws) most_instructions)

-- question 10 got a "yes"
row_in_range : (vars : ℕ) (ws : List ℕ) (rs : List RungRecord) → list_answer vars ws rs ≡ none → T (list_in_range vars ws rs)
unfolding list_answer question10
row_in_range vars ws rs e = ask_passed 10 (list_in_range vars ws rs) (first_yes (question10 vars ws rs) [] (later_yes (question1 vars) (question10 vars ws rs ∷ []) e))

-- question 10, of four slices
module _ (vars : ℕ) (ws ls os ns ts : List ℕ) where
  pub uneven_row : (length ls ≡ length ts → ⊥) → false ≡ list_in_range vars ws (row_of ls os ns ts)
  uneven_row h = sym (rw (row_uneven ls os ns ts h) (none_in_range vars ws))

  pub even_row : length ls ≡ length ts → (r : Bool) → r ≡ list_in_range vars ws (fields_of ls os ns) → r ≡ list_in_range vars ws (row_of ls os ns ts)
  even_row h r e = rw (row_fields ls os ns ts h) e

  module _ (ok : list_answer vars ws (row_of ls os ns ts) ≡ none) where
    row_accepted : row_of ls os ns ts ≡ fields_of ls os ns
    row_accepted = row_fields ls os ns ts (row_times ls os ns ts (list_in_range_lem vars ws (row_of ls os ns ts) (row_in_range vars ws (row_of ls os ns ts) ok)).some_record)

    pub accepted_range : T (list_in_range vars ws (fields_of ls os ns))
    accepted_range = row_in_range vars ws (fields_of ls os ns) (rw row_accepted at ok)

-- ---- List scan

-- numbers that question 16 takes leave none over
taken_whole : (vars : ℕ) (ks : List ℕ) → timers_in_range vars (number_timers ks) ≡ true → whole ks ≡ true
unfolding number_timers
taken_whole vars ks e = go (whole ks) refl
  where
    go : (b : Bool) → whole ks ≡ b → whole ks ≡ true
    go true q = q
    go false q =
        let many : timers_in_range vars (number_timers ks) ≡ false = rw q (too_many_lem vars too_many (omega arith)) in
        let z : ◌≡◌ {A = Bool} false true = sym many ∙ e in
        let n : ◌≡◌ {A = ℕ} 0 1 = cc in
        absurd (omega arith)

-- its questions, of timer records in the numbers ks
module _ (vars : ℕ) (ws : List ℕ) (rs : List RungRecord) (t ks : List ℕ) (w : ℕ) where
  pub asked_variables : vars_in_range vars ≡ false → verdict_answer (Err Variables) ≡ scan_questions vars ws rs t (number_timers ks) w
  unfolding verdict_answer refusal_of scan_questions first_no question1 ask
  asked_variables e = rw e

  module _ (e1 : vars_in_range vars ≡ true) where
    pub asked_timers : timers_in_range vars (number_timers ks) ≡ false → verdict_answer (Err Timers) ≡ scan_questions vars ws rs t (number_timers ks) w
    unfolding verdict_answer refusal_of scan_questions first_no question1 question16 ask
    asked_timers e = rw (e1, e)

    module _ (e16 : timers_in_range vars (number_timers ks) ≡ true) where
      pub asked_list_lem : list_in_range vars ws rs ≡ false → verdict_answer (Err ListCase) ≡ scan_questions vars ws rs t (number_timers ks) w
      unfolding verdict_answer refusal_of scan_questions first_no question1 question16 question10 ask
      asked_list_lem e = rw (e1, e16, e)

      -- question 17 was put to so many records
      module _ (e10 : list_in_range vars ws rs ≡ true) (b : Bool) (q : TimersAsked ws (length ks / 5) b) where
        known : timers_known (length (number_timers ks)) (code_of ws) ≡ b
        known =
            let h = taken_whole vars ks e16 in
            let l = whole_length ks h in
            let n : length (timers_in ks) ≡ length ks / 5 = omega arith in
            rw (whole_timers ks h, n) (sym (q.same (code_of ws) (list_in_range_lem vars ws rs (rw e10 tt)).held))

        pub asked_number : b ≡ false → verdict_answer (Err TimerNumber) ≡ scan_questions vars ws rs t (number_timers ks) w
        unfolding verdict_answer refusal_of scan_questions first_no question1 question16 question10 question17 ask
        asked_number e = rw (e1, e16, e10, known, e)

        module _ (e17 : b ≡ true) where
          pub asked_table : table_in_range vars t ≡ false → verdict_answer (Err Table) ≡ scan_questions vars ws rs t (number_timers ks) w
          unfolding verdict_answer refusal_of scan_questions first_no question1 question16 question10 question17 question11 ask
          asked_table e = rw (e1, e16, e10, known, e17, e)

          pub asked_watchdog_lem : table_in_range vars t ≡ true → leb w most_instruction_watchdog ≡ false → verdict_answer (Err Watchdog) ≡ scan_questions vars ws rs t (number_timers ks) w
          unfolding verdict_answer refusal_of scan_questions first_no question1 question16 question10 question17 question11 question12 ask
          asked_watchdog_lem e f = rw (e1, e16, e10, known, e17, e, f)

          pub asked_accepted : table_in_range vars t ≡ true → leb w most_instruction_watchdog ≡ true → verdict_answer (Ok tt) ≡ scan_questions vars ws rs t (number_timers ks) w
          unfolding verdict_answer scan_questions first_no question1 question16 question10 question17 question11 question12 ask
          asked_accepted e f = rw (e1, e16, e10, known, e17, e, f)

-- numbers of which the records stay
numbers_same : (ks : List ℕ) → numbers_after ks (number_timers ks) ≡ ks
unfolding numbers_after
numbers_same ks = go (whole ks) refl
  where
    go : (b : Bool) → whole ks ≡ b → numbers_after ks (number_timers ks) ≡ ks
    go true q = numbers_after_lem ks (number_timers ks) q ∙ rw (whole_timers ks q) (whole_back ks q)
    go false q = rw q refl

pub scan_refused : (vars : ℕ) (ws : List ℕ) (rs : List RungRecord) (t ks : List ℕ) (tick w : ℕ) (refusal : RefusalCase) (times : List ℕ)
    → scan_questions vars ws rs t (number_timers ks) w ≡ some (refusal_of refusal) → ListScanNumbers (call_list_scan vars ws rs t (number_timers ks) tick w) (Err refusal) t ks ks times times
scan_refused vars ws rs t ks tick w refusal times e =
    let d = scan_refuses vars ws rs t (number_timers ks) tick w refusal times e in
    record { done = d; numbers = sym (numbers_same ks) ∙ ap (numbers_after ks) d.same_timers }

-- its questions took a row of four slices, equally many, and the timer records in the numbers ks
module _ (vars : ℕ) (ws ls os ns before t ks : List ℕ) (w : ℕ) (ok : scan_questions vars ws (row_of ls os ns before) t (number_timers ks) w ≡ none) where
  many : length ls ≡ length before
  many = row_times ls os ns before (scan_in_range vars ws (row_of ls os ns before) t (number_timers ks) w ok).some_record

  asked : scan_questions vars ws (fields_of ls os ns) t (number_timers ks) w ≡ none
  asked = rw (row_fields ls os ns before many) at ok

  even : Even ls os ns
  even = row_even ls os ns (scan_in_range vars ws (fields_of ls os ns) t (number_timers ks) w asked).some_record

  none_over : whole ks ≡ true
  unfolding question16
  none_over = taken_whole vars ks (T→true _ (ask_passed 16 _ (scan_passed vars ws (fields_of ls os ns) t (number_timers ks) w asked).legal_timers))

  pub as_many : length before ≡ length os
  as_many = sym many ∙ even.first

  -- the scan of it, which left the numbers ms
  pub scanned_row : (tick : ℕ) (r : HaltCase CountsStruct) (after u ms : List ℕ) → length ms ≡ length ks → Ran ws os before (state_of vars t (timers_in ks) tick) w r after u (timers_in ms)
      → ListScanNumbers (call_list_scan vars ws (row_of ls os ns before) t (number_timers ks) tick w) (Ok r) u ks ms before after
  scanned_row tick r after u ms long ran =
      let d : ListScanDone (call_list_scan vars ws (row_of ls os ns before) t (number_timers ks) tick w) (Ok r) u (timers_in ms) before after =
      rw (row_fields ls os ns before many)
      (scan_scans vars ws (fields_of ls os ns) t (number_timers ks) w tick before r after u (timers_in ms) asked (rw (row_offsets ls os ns even, whole_timers ks none_over) ran)) in
      record {
        done = rw (whole_timers ms (same_whole ms ks long ∙ none_over)) d;
        numbers = numbers_left ks ms _ long d.same_timers none_over;
      }

-- ---- Listing

-- an accepted table has 102 bytes
pub table_long : (table : List ℕ) → is_name_table table ≡ true → length table ≡ name_bytes * most_op
unfolding is_name_table
table_long table e = eqb→eq (length table) (name_bytes * most_op) (and_yes (eqb (length table) (name_bytes * most_op)) (all is_name (names_in table) && different same_bytes (names_in table)) (rw e tt)).0

module _ (table : List ℕ) (vars : ℕ) (ws : List ℕ) (rs : List RungRecord) (out : List ℕ) where
  abbrev text : List ℕ
  text = listing_text (names_in table) vars (list_of ws rs)

  abbrev answers : List Answer
  answers = question14 table ∷ question1 vars ∷ question10 vars ws rs ∷ question13 (record { needed = length text; lent = length out } ∷ []) ∷ []

  refuses_listing : (refusal : RefusalCase) → first_no answers ≡ some (refusal_of refusal) → ListingDone (listing table vars ws rs out) (Err refusal) out
  unfolding listing listed_answer
  refuses_listing refusal e = record { answer = rw (e, listing); same_buffer = rw (e, listing) }

  module _ (named : is_name_table table ≡ true) (ok : list_answer vars ws rs ≡ none) where
    last : first_no answers ≡ first_no (question13 (record { needed = length text; lent = length out } ∷ []) ∷ [])
    unfolding list_answer
    last = names_accepted table named _ ∙ first_accepted (question1 vars) (question10 vars ws rs) _ ok

    -- the bytes were counted over a buffer of none
    listing_short : (n : ℕ) (u : List ℕ) → Put [] 0 text n u → length out < n → ListingDone (listing table vars ws rs out) (Err BufferCase) out
    unfolding first_no question13 long_enough ask refusal_of
    listing_short n u p h = let e = p.end in refuses_listing BufferCase (last ∙ rw (lt-leb (length text) (length out) (omega arith)))

    listing_written : (n : ℕ) (u : List ℕ) → Put [] 0 text n u → n ≤ length out
        → (r : ℕ) (v : List ℕ) → Put out 0 text r v → ListingDone (listing table vars ws rs out) (Ok r) v
    unfolding first_no question13 long_enough ask listing listed_answer
    listing_written n u p h r v w =
        let e = p.end in
        let f = w.end in
        let fits : 0 + length text ≤ length out = omega arith in
        let same : r ≡ length text = omega arith in
        let q : first_no answers ≡ none = last ∙ rw (le-leb (length text) (length out) (omega arith)) in
        record {
          answer = rw (q, listing, same);
          same_buffer = rw (q, listing) (w.wrote ∙ sets-eq text out 0 fits ∙ rw zero-add);
        }

-- the same of four slices
module _ (table : List ℕ) (vars : ℕ) (ws ls os ns ts out : List ℕ) (named : is_name_table table ≡ true) (ok : list_answer vars ws (row_of ls os ns ts) ≡ none) where
  abbrev same_row : row_of ls os ns ts ≡ fields_of ls os ns
  same_row = row_accepted vars ws ls os ns ts ok

  pub row_short : (n : ℕ) (u : List ℕ) → Put [] 0 (listing_text (names_in table) vars (list_of ws (fields_of ls os ns))) n u → length out < n
      → ListingDone (listing table vars ws (row_of ls os ns ts) out) (Err BufferCase) out
  row_short n u p h = rw same_row (listing_short table vars ws (fields_of ls os ns) out named (rw same_row at ok) n u p h)

  pub row_written : (n : ℕ) (u : List ℕ) → Put [] 0 (listing_text (names_in table) vars (list_of ws (fields_of ls os ns))) n u → n ≤ length out
      → (r : ℕ) (v : List ℕ) → Put out 0 (listing_text (names_in table) vars (list_of ws (fields_of ls os ns))) r v → ListingDone (listing table vars ws (row_of ls os ns ts) out) (Ok r) v
  row_written n u p h r v w = rw same_row (listing_written table vars ws (fields_of ls os ns) out named (rw same_row at ok) n u p h r v w)
