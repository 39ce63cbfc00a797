-- Laws of both scans: each way that the questions and Translate answer, and what the scans give once none refuses. Assumes nothing.
use Prim.Native.Nat.{ℕ, ◌≤◌}
use native.Mathlib.Omega.{arith}
use mathlib.Core.Path.{◌≡◌, refl, sym, ap, ◌∙◌}
use mathlib.Core.Bool.{true}
use mathlib.Core.Option.{none, some}
use mathlib.Core.List.{List, [], ◌∷◌, ◌++◌, map, append-nil}
use lib.ListN.{length, take, drop, drop_of_length-le, length-replicate}
use lib.Seq.{take_all, drop_at}
use Rattle.questions.specs.Questions.{Refusal, Answer, first_no, question12, question13, most_rung_watchdog, most_instruction_watchdog}
use Rattle.questions.specs.Refusals.{refusal_of, verdict_answer}
use Rattle.questions.proofs.Laws.Answers.{first_yes, later_yes, verdict_accepted, watchdog_in_range}
use Rattle.questions.specs.declared.Refusal.{Refusal as RefusalCase}
use Rattle.table.specs.Halt.{Halt, Ended, Stopped}
use Rattle.table.specs.Timer.{Timer}
use Rattle.table.specs.State.{State}
use Rattle.table.specs.TimerRecords.{timer_numbers, whole, number_timers, numbers_after}
use Rattle.table.proofs.Laws.TimerRecords.{asked_whole}
use Rattle.rungs.specs.Records.{RungRecord, none_entered, row_of, longest}
use Rattle.rungs.specs.Buffers.{Buffers, buffers, as_buffers, needs, written, written_over, written_words, written_records}
use Rattle.ladder_definitions.specs.Kept.{Kept}
use Rattle.ladder_definitions.specs.Meaning.{scan_ladder}
use Rattle.ladder_definitions.specs.Questions.{ladder_of, ladder_answer, most_rung_words}
use Rattle.ladder_definitions.specs.LadderScan.{LadderCounts, counts_of as ladder_counts_of, LadderScanAnswer, call_ladder_scan, scanned as ladder_scanned, refused as ladder_refused, scan_ends as ladder_ends, counts_in as ladder_counts_in, ladder_scanned_answer, LadderScanNumbers}
use Rattle.ladder_definitions.proofs.Laws.Answers.{rungs_few as entered_few}
use Rattle.ladder_definitions.proofs.Laws.Accepting.{accepted, ScanPassed, scan_passed}
use Rattle.list_definitions.specs.Instruction.{instr_word}
use Rattle.list_definitions.specs.Machine.{InstructionList, scan_list}
use Rattle.list_definitions.specs.ListScan.{ListCounts, counts_of as list_counts_of, ListScanAnswer, call_list_scan, scanned as list_scanned, refused as list_refused, scan_ends as list_ends, counts_in as list_counts_in, list_scanned_answer, ListScanNumbers}
use Rattle.translation_definitions.specs.Translate.{translate, code_bound}
use Rattle.translation_definitions.specs.TranslateKept.{translated, refused as translate_refused, translate_kept, counts_of, counts_in, list_buffers, TranslateDone, translated_answer}
use Rattle.translation_definitions.proofs.Laws.Answers.{not_both, call_refused, call_written, refused_same, all_yes, counts_are, written_room}
use Rattle.translation_definitions.proofs.Laws.Calls.{ladder_call_lem, list_call_lem, list_times, words_out, records_out}
use Rattle.translation_definitions.proofs.Laws.Legal.{watchdog_in_range as most_in_range}
use Rattle.translation_definitions.proofs.Laws.Boths.{copy_long, both_ends, both_left, both_refused_lem, both_scanned, paired_legal}
use Rattle.translation_definitions.specs.BothScans.{Lent, lends, scanned_buffers, both_questions, begun, both_scans, paired_scans, paired_watchdog, ends_in, both_scanned_answer, BothScansDone}
use Rattle.translation_definitions.specs.BothAgree.{BothPromise, PairedPromise}
use Rattle.translation_definitions.proofs.Theorems.{both_agree, paired_agree}
use Rattle.translation_definitions.specs.declared.Counts.{Counts as CountsStruct}
use Rattle.translation_definitions.specs.declared.BothEnds.{BothEnds as EndsStruct}
use Rattle.both_parts.specs.Parts.{Memory, memory, copied, Lengths, both_asked, asked_watchdog, watchdog_by, ladder_end, list_end}
use Rattle.std.specs.Prelude.{Option, Some, None, Result, Ok, Err}
use Rattle.table.specs.declared.Halt.{Halt as HaltCase}
use Rattle.table.specs.declared.Halt.TheVariants.{Ended as EndedCase, Stopped as StoppedCase}
use Rattle.ladder_definitions.specs.declared.Counts.{Counts as LadderCountsStruct}
use Rattle.list_definitions.specs.declared.Counts.{Counts as ListCountsStruct}
use Rattle.table.specs.Halt.{halt_of, halt_counts}
use Rattle.ladder_definitions.specs.LadderScan.{LadderScanned}
use Rattle.list_definitions.specs.ListScan.{ListScanned}
use Rattle.translation_definitions.specs.TranslateKept.{Translated}
use Rattle.translation_definitions.specs.BothScans.{BothScanned}
use Rattle.both_scans.specs.Parts.{chosen_watchdog, ScansRun}
use Rattle.both_scans.proofs.Asking.{lent_lengths, room, asked_all}

-- ---- how a scan ended, from its answer

not_ladder : (h : Halt) (n : LadderCounts) (x : Refusal) → ◌≡◌ {A = LadderScanAnswer} (ladder_refused x) (ladder_scanned h n) → ⊥
not_ladder h n x e = let z : ◌≡◌ {A = ℕ} 0 1 = cc in omega arith

not_list : (h : Halt) (n : ListCounts) (x : Refusal) → ◌≡◌ {A = ListScanAnswer} (list_refused x) (list_scanned h n) → ⊥
not_list h n x e = let z : ◌≡◌ {A = ℕ} 0 1 = cc in omega arith

ladder_told : (a : LadderScanned) (h : Halt) (n : LadderCounts) → ladder_scanned_answer a ≡ ladder_scanned h n
    → (halt_of (ladder_end a) ≡ h) × (ladder_counts_in (halt_counts (ladder_end a)) ≡ n)
unfolding ladder_scanned_answer
ladder_told (Ok (EndedCase c)) h n e = (cc, cc)
ladder_told (Ok (StoppedCase c)) h n e = (cc, cc)
ladder_told (Err x) h n e = absurd (not_ladder h n (refusal_of x) e)

list_told : (a : ListScanned) (h : Halt) (n : ListCounts) → list_scanned_answer a ≡ list_scanned h n
    → (halt_of (list_end a) ≡ h) × (list_counts_in (halt_counts (list_end a)) ≡ n)
unfolding list_scanned_answer
list_told (Ok (EndedCase c)) h n e = (cc, cc)
list_told (Ok (StoppedCase c)) h n e = (cc, cc)
list_told (Err x) h n e = absurd (not_list h n (refusal_of x) e)

-- ---- the rungs entered are within the rung watchdog's range

module _ (vars : ℕ) (k : Kept) (t : List ℕ) (timers : List Timer) (now n : ℕ) where
  pub end_few : (a : LadderScanned) → ladder_scanned_answer a ≡ (call_ladder_scan vars k t timers now n).answer → n ≤ most_rung_watchdog → (halt_counts (ladder_end a)).rungs ≤ most_rung_watchdog
  unfolding ladder_scanned_answer
  end_few (Ok (EndedCase c)) d most = let few = entered_few vars k t timers now n Ended (ladder_counts_in c) (sym d) in omega arith
  end_few (Ok (StoppedCase c)) d most = let few = entered_few vars k t timers now n Stopped (ladder_counts_in c) (sym d) in omega arith
  end_few (Err x) d most = omega arith

-- ---- both scans were called

module _ (vars : ℕ) (k : Kept) (code : List ℕ) (records : List RungRecord) (counts : CountsStruct) (now n : ℕ) (watchdog : Option ℕ) {t₀ u₀ : Memory} (t u : Memory) (et : t ≡ t₀) (eu : u ≡ u₀) where
  pub scans_ran : (a : LadderScanned) (t' : Memory) → LadderScanNumbers (call_ladder_scan vars k t.bytes (number_timers t.numbers) now n) a t'.bytes t.numbers t'.numbers → (x : HaltCase LadderCountsStruct) → x ≡ ladder_end a
      → (m : ℕ) → m ≡ watchdog_by watchdog (halt_of x) (halt_counts x).rungs counts.longest n
      → (b : ListScanned) (u' : Memory) (v v' : List ℕ) → ListScanNumbers (call_list_scan vars code records u.bytes (number_timers u.numbers) now m) b u'.bytes u.numbers u'.numbers v v' → (y : HaltCase ListCountsStruct) → y ≡ list_end b
      → ScansRun vars k code records counts now n watchdog t₀ u₀
      (record { counts = counts; ladder = x; list = y }) t' u' v v'
  scans_ran a t' d x ex m em b u' v v' e y ey =
      record {
        ladder = a;
        ladder_run = rw (← et) d;
        list = b;
        list_run = rw (← eu, ← ex, ← em) e;
        ends = rw (ex, ey) refl;
      }

-- ---- to a lent slice of the same length all is copied

copied_whole : (table lent : List ℕ) → length lent ≡ length table → copied table lent ≡ table
unfolding copied
copied_whole table lent e =
    rw (take_all (length lent) table (omega arith), drop_of_length-le lent {i = length table} (omega arith)) (append-nil table)

-- ---- what Translate wrote

module _ (vars : ℕ) (k : Kept) (lent : Buffers) (r : Translated) (after : Buffers) (done : TranslateDone (translate_kept vars k lent) r after) (c : CountsStruct) (e : r ≡ Ok c) where
  written_answer_lem : (translate_kept vars k lent).answer ≡ translated (counts_in c)
  unfolding translated_answer
  written_answer_lem = sym done.answer ∙ ap translated_answer e

  pub written_fits : (c.instructions ≤ length lent.words) × (c.rungs ≤ length lent.labels) × (c.rungs ≤ length lent.offsets) × (c.rungs ≤ length lent.lengths)
      × (c.rungs ≤ length lent.times)
  written_fits = written_room vars k lent (counts_in c) written_answer_lem

  counted : counts_in c ≡ counts_of (translate vars (ladder_of k))
  counted = counts_are vars k lent (counts_in c) written_answer_lem

  written_yes : first_no (ladder_answer vars k ∷ question13 (needs (list_buffers (translate vars (ladder_of k))) lent) ∷ []) ≡ none
  written_yes = all_yes vars k lent (counts_in c) written_answer_lem

  after_is : after ≡ written_over (list_buffers (translate vars (ladder_of k))) lent
  after_is = done.same_buffers ∙ ap (λ t. t.buffers) (call_written vars k lent written_yes)

  pub longest_few : c.longest ≤ code_bound most_rung_words
  unfolding counts_of
  longest_few =
      let a = (accepted vars k (first_yes (ladder_answer vars k) _ written_yes)).1 in
      let l : c.longest ≡ longest (translate vars (ladder_of k)).records = ap (λ d. d.longest) counted in
      let m = watchdog_in_range most_instruction_watchdog _ (most_in_range vars (ladder_of k) a 65535 (omega arith)) in
      omega (arith, l, m)

-- ---- the questions before 13

-- what they told
pub record EarlyPassed (vars : ℕ) (k : Kept) (table timers : List ℕ) (m : Lengths) (n w : ℕ) : Type 0 where
  pub passed : ScanPassed vars k table (number_timers timers) n
  pub ladder_numbers_lem : m.ladder_numbers ≡ length timers
  pub list_numbers_lem : m.list_numbers ≡ length timers
  pub ladder_copy : m.ladder_bytes ≡ length table
  pub list_copy : m.list_bytes ≡ length table
  pub instructions : question12 most_instruction_watchdog w ≡ none

module _ (vars : ℕ) (k : Kept) (table timers : List ℕ) (m : Lengths) (n w : ℕ) {v : Result (Unit {0}) RefusalCase} (answer : verdict_answer v ≡ both_asked vars k table timers m n w) (accepts : v ≡ Ok tt) where
  early_passed : EarlyPassed vars k table timers m n w
  unfolding both_asked
  early_passed =
      let e = verdict_accepted answer accepts in
      let e1 = later_yes _ _ e in
      let e2 = later_yes _ _ e1 in
      let e3 = later_yes _ _ e2 in
      let e4 = later_yes _ _ e3 in
      let e5 = later_yes _ _ e4 in
      record {
        passed = scan_passed vars k table (number_timers timers) n (first_yes _ _ e);
        ladder_numbers_lem = copy_long 16 _ _ (first_yes _ _ e1);
        list_numbers_lem = copy_long 16 _ _ (first_yes _ _ e2);
        ladder_copy = copy_long 11 _ _ (first_yes _ _ e3);
        list_copy = copy_long 11 _ _ (first_yes _ _ e4);
        instructions = first_yes _ _ e5;
      }

  pub rungs_few : n ≤ most_rung_watchdog
  rungs_few = watchdog_in_range most_rung_watchdog n early_passed.passed.watchdog

-- ---- both scans

module _ (vars : ℕ) (k : Kept) (table timers : List ℕ) (now : ℕ) (lent : Lent) (n : ℕ) (watchdog : Option ℕ) (m : ℕ) (em : m ≡ asked_watchdog watchdog) (v : Result (Unit {0}) RefusalCase)
    (answer : verdict_answer v ≡ both_asked vars k table timers (lent_lengths lent) n m) where
  abbrev w : ℕ
  w = chosen_watchdog watchdog vars k table timers now n

  abbrev s : State
  s = begun vars table timers now

  asked_then : first_no (both_questions vars k table timers lent n w) ≡ first_no (verdict_answer v ∷ room vars k table timers now lent n ∷ [])
  asked_then = asked_all vars k table timers now lent n watchdog ∙ rw (answer, em) refl

  pub early_refused : (x : RefusalCase) → v ≡ Err x → BothScansDone (both_scans vars k table timers now lent n w) (Err x) lent
  unfolding first_no both_scanned_answer verdict_answer
  early_refused x e =
      let b = both_refused_lem vars k table timers now lent n w (refusal_of x) (asked_then ∙ rw e refl) in
      record { answer = rw b refl; same_lent = rw b refl }

  module _ (accepts : v ≡ Ok tt) where
    abbrev p : EarlyPassed vars k table timers (lent_lengths lent) n m
    p = early_passed vars k table timers (lent_lengths lent) n m answer accepts

    -- the chosen watchdog is in range
    chosen_legal : question12 most_instruction_watchdog w ≡ none
    unfolding asked_watchdog chosen_watchdog
    chosen_legal = go watchdog (rw em at p.instructions)
      where
        go : (x : Option ℕ) → question12 most_instruction_watchdog (asked_watchdog x) ≡ none → question12 most_instruction_watchdog (chosen_watchdog x vars k table timers now n) ≡ none
        go (Some u) e = e
        go None e = paired_legal vars k table timers now n p.passed.accepted p.passed.watchdog

    module _ (r : Translated) (after : Buffers) (done : TranslateDone (translate_kept vars k lent.buffers) r after) where
      abbrev untouched : Lent
      untouched = lends lent.ladder_table lent.list_table lent.ladder_timers lent.list_timers after

      pub room_refused : (x : RefusalCase) → r ≡ Err x → BothScansDone (both_scans vars k table timers now lent n w) (Err x) untouched
      unfolding translated_answer first_no both_scanned_answer verdict_answer
      room_refused x e = go (room vars k table timers now lent n) refl
        where
          refuses : (translate_kept vars k lent.buffers).answer ≡ translate_refused (refusal_of x)
          refuses = sym done.answer ∙ ap translated_answer e

          go : (a : Answer) → room vars k table timers now lent n ≡ a → BothScansDone (both_scans vars k table timers now lent n w) (Err x) untouched
          go none q = absurd (not_both _ (refusal_of x) (sym (ap (λ c. c.answer) (call_written vars k lent.buffers (rw (p.passed.accepted, q)))) ∙ refuses))
          go (some y) q =
              let z : translate_refused y ≡ translate_refused (refusal_of x) = sym (ap (λ c. c.answer) (call_refused vars k lent.buffers y (rw (p.passed.accepted, q)))) ∙ refuses in
              let same : y ≡ refusal_of x = cc in
              let b = both_refused_lem vars k table timers now lent n w (refusal_of x) (asked_then ∙ rw (accepts, q, same) refl) in
              let kept = done.same_buffers ∙ refused_same vars k lent.buffers (refusal_of x) refuses in
              record { answer = rw b refl; same_lent = rw b (λ i. lends lent.ladder_table lent.list_table lent.ladder_timers lent.list_timers (kept i)) }

      module _ (c : CountsStruct) (e : r ≡ Ok c) (ends : EndsStruct) (t' u' : Memory) (f f' : List ℕ)
          (ran : ScansRun vars k (take c.instructions after.words)
          (row_of (take c.rungs after.labels) (take c.rungs after.offsets) (take c.rungs after.lengths) (take c.rungs after.times))
          c now n watchdog (memory (copied table lent.ladder_table) (copied timers lent.ladder_timers))
          (memory (copied table lent.list_table) (copied timers lent.list_timers)) ends t' u' f f') where
        abbrev list : InstructionList
        list = translate vars (ladder_of k)

        counts : counts_in c ≡ counts_of list
        counts = counted vars k lent.buffers r after done c e

        wrote : after ≡ written_over (list_buffers list) lent.buffers
        wrote = after_is vars k lent.buffers r after done c e

        passed_all : first_no (both_questions vars k table timers lent n w) ≡ none
        unfolding first_no verdict_answer
        passed_all = asked_then ∙ rw accepts (later_yes (ladder_answer vars k) (room vars k table timers now lent n ∷ []) (written_yes vars k lent.buffers r after done c e))

        -- the numbers are those of whole records
        whole_numbers : whole timers ≡ true
        whole_numbers = asked_whole vars timers p.passed.legal_timers

        after_numbers : (ts : List Timer) → numbers_after timers ts ≡ timer_numbers ts
        unfolding numbers_after
        after_numbers ts = rw (whole_numbers, numbers_after)

        ladder_is : LadderScanNumbers (ladder_ends (scan_ladder (ladder_of k) n s)) ran.ladder t'.bytes timers t'.numbers
        ladder_is =
            rw (
              ← (ladder_call_lem vars k table (number_timers timers) now n p.passed),
              ← (copied_whole table lent.ladder_table p.ladder_copy),
              ← (copied_whole timers lent.ladder_timers p.ladder_numbers_lem),
            ) ran.ladder_run

        ladder_halt_lem : (halt_of (ladder_end ran.ladder) ≡ (scan_ladder (ladder_of k) n s).halt)
            × (ladder_counts_in (halt_counts (ladder_end ran.ladder)) ≡ ladder_counts_of (scan_ladder (ladder_of k) n s))
        unfolding ladder_ends
        ladder_halt_lem = ladder_told ran.ladder _ _ ladder_is.done.answer

        same_watchdog : (x : Option ℕ)
            → watchdog_by x (halt_of (ladder_end ran.ladder)) (halt_counts (ladder_end ran.ladder)).rungs c.longest n ≡ chosen_watchdog x vars k table timers now n
        unfolding watchdog_by chosen_watchdog paired_watchdog counts_of
        same_watchdog (Some u) = refl
        same_watchdog None =
            let rungs : (halt_counts (ladder_end ran.ladder)).rungs ≡ (scan_ladder (ladder_of k) n s).rungs = ap (λ (d : LadderCounts). d.rungs) ladder_halt_lem.1 in
            let most : c.longest ≡ longest list.records = ap (λ d. d.longest) counts in
            rw (ladder_halt_lem.0, rungs, most) refl

        -- the list that Translate wrote, taken out of the buffers
        words_are : take c.instructions after.words ≡ map instr_word list.code
        unfolding written_words counts_of
        words_are = rw (wrote, ap (λ d. d.instructions) counts) (words_out list lent.buffers)

        records_are : row_of (take c.rungs after.labels) (take c.rungs after.offsets) (take c.rungs after.lengths) (take c.rungs after.times) ≡ list.records
        unfolding written_records counts_of
        records_are = rw (wrote, ap (λ d. d.rungs) counts) (records_out list lent.buffers)

        list_is : ListScanNumbers (list_ends (scan_list list w s)) ran.list u'.bytes timers u'.numbers f f'
        list_is =
            let d = rw (copied_whole table lent.list_table p.list_copy, copied_whole timers lent.list_timers p.list_numbers_lem, words_are, records_are, same_watchdog watchdog) at ran.list_run in
            rw (← (list_call_lem vars k table (number_timers timers) now n p.passed w chosen_legal)) d

        list_halt_lem : (halt_of (list_end ran.list) ≡ (scan_list list w s).halt) × (list_counts_in (halt_counts (list_end ran.list)) ≡ list_counts_of (scan_list list w s))
        unfolding list_ends
        list_halt_lem = list_told ran.list _ _ list_is.done.answer

        -- the times that the list scan set stand in the buffer before what stood there
        timed : (times : List ℕ) → times ≡ f' ++ drop c.rungs after.times
            → buffers after.words after.labels after.offsets after.lengths times ≡ written_over (scanned_buffers list (scan_list list w s).counts.times) lent.buffers
        unfolding written_over as_buffers written list_ends counts_of
        timed times q =
            let set : f' ≡ (scan_list list w s).counts.times = list_is.done.same_times in
            let many = length-replicate {A = ℕ} (length list.records) 0 in
            let rungs : c.rungs ≡ length list.records = ap (λ d. d.rungs) counts in
            let fields = (list_times vars k table (number_timers timers) now n p.passed w chosen_legal).0 in
            let rest = drop_at (none_entered (length list.records)) (drop (length (none_entered (length list.records))) lent.buffers.times) c.rungs (many ∙ sym rungs) in
            let left : drop c.rungs after.times ≡ drop (length (scan_list list w s).counts.times) lent.buffers.times
            = ap (λ b. drop c.rungs b.times) wrote ∙ rest ∙ ap (λ m. drop m lent.buffers.times) (many ∙ sym fields) in
            λ i. record {
              words = (wrote i).words;
              labels = (wrote i).labels;
              offsets = (wrote i).offsets;
              lengths = (wrote i).lengths;
              times = (q ∙ (λ j. set j ++ left j)) i;
            }

        pub both_done : (times : List ℕ) → times ≡ f' ++ drop c.rungs after.times
            → BothScansDone (both_scans vars k table timers now lent n w) (Ok ends)
            (lends t'.bytes u'.bytes t'.numbers u'.numbers (buffers after.words after.labels after.offsets after.lengths times))
        unfolding both_scanned_answer ends_in both_ends both_left ladder_ends list_ends
        both_done times q =
            let b = both_scanned vars k table timers now lent n w passed_all in
            let ladder_numbers_lem : t'.numbers ≡ timer_numbers (scan_ladder (ladder_of k) n s).state.timers = ladder_is.numbers ∙ after_numbers (scan_ladder (ladder_of k) n s).state.timers in
            let list_numbers_lem : u'.numbers ≡ timer_numbers (scan_list list w s).state.timers = list_is.numbers ∙ after_numbers (scan_list list w s).state.timers in
            record {
              answer = rw (b, ran.ends, ladder_halt_lem.0, ladder_halt_lem.1, list_halt_lem.0, list_halt_lem.1, counts) refl;
              same_lent = rw b (λ i. lends (ladder_is.done.same_table i) (list_is.done.same_table i) (ladder_numbers_lem i) (list_numbers_lem i) (timed times q i));
            }

-- ---- the two calls' promises

module _ (vars : ℕ) (k : Kept) (table timers : List ℕ) (now : ℕ) (lent : Lent) (n : ℕ) {r : BothScanned} {after : Lent} where
  pub both_promise : (w : ℕ) → BothScansDone (both_scans vars k table timers now lent n (chosen_watchdog (Some w) vars k table timers now n)) r after
      → BothScansDone (both_scans vars k table timers now lent n w) r after × BothPromise vars k table timers now lent n w (both_scanned_answer r) after
  unfolding chosen_watchdog
  both_promise w d = (d, λ given legal. rw (d.answer, d.same_lent) (both_agree vars k table timers now lent n w given legal))

  pub paired_promise : BothScansDone (both_scans vars k table timers now lent n (chosen_watchdog None vars k table timers now n)) r after
      → BothScansDone (paired_scans vars k table timers now lent n) r after × PairedPromise vars k table timers now lent n (both_scanned_answer r) after
  unfolding chosen_watchdog
  paired_promise d = (d, λ given. rw (d.answer, d.same_lent) (paired_agree vars k table timers now lent n given))
