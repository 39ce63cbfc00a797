-- Demand 3 over the calls, from demand 3 over trees: what the calls do once every question got a "yes". Assumes nothing.
use Rattle.std.specs.Prelude.{ℕ, ◌*◌, ◌≤◌, ◌≡◌, List, [], ◌∷◌, map, length}
use Rattle.std.proofs.Common.{arith, ◌∙◌}
use Rattle.std.proofs.Math.Path.{sym, ap}
use Rattle.std.proofs.Math.Option.{none, some}
use Rattle.std.proofs.lemmas.List.{length-map}
use Rattle.questions.specs.Questions.{Refusal, Answer, first_no, question1, question12, question13, most_rung_watchdog, most_instruction_watchdog}
use Rattle.questions.proofs.Laws.Answers.{watchdog_in_range, in_range_watchdog}
use Rattle.table.specs.Timer.{Timer}
use Rattle.table.specs.State.{State, state_of}
use Rattle.table.specs.Halt.{Halt, Ended, Stopped}
use Rattle.table.specs.Questions.{question11, question16, Legal}
use Rattle.table.proofs.Laws.Timers.{timers_below}
use Rattle.table.proofs.Laws.Alike.{alike_self, same_tables}
use Rattle.rungs.specs.Records.{longest, sum, row_of}
use Rattle.rungs.specs.Buffers.{Buffers, as_buffers, needs, written_over, written_words, written_records}
use Rattle.rungs.proofs.Laws.Filling.{written_first, first_written, row_of_new, labels_count, offsets_count, lengths_count, times_count}
use Rattle.ladder_definitions.specs.Tree.{Ladder}
use Rattle.ladder_definitions.specs.Meaning.{scan_ladder}
use Rattle.ladder_definitions.specs.Entries.{times_entered}
use Rattle.ladder_definitions.specs.Kept.{Kept}
use Rattle.ladder_definitions.specs.Questions.{ladder_of, question17, form_questions, ladder_answer, Accepted}
use Rattle.ladder_definitions.specs.LadderScan.{LadderCounts, counts_of as ladder_counts_of, LadderScanCall, call_ladder_scan, scanned as ladder_scanned, scan_ends as ladder_ends, scan_questions as ladder_scan_questions}
use Rattle.ladder_definitions.proofs.Laws.Accepting.{accepted, some_question4, ScanPassed, passed_scan}
use Rattle.ladder_definitions.proofs.Laws.Answers.{halt_told, counted}
use Rattle.ladder_definitions.proofs.Laws.Scratch.{scan_stays}
use Rattle.ladder_definitions.proofs.Laws.Watchdog.{stopped_rungs, few_rungs}
use Rattle.list_definitions.specs.Instruction.{instr_word, code_of}
use Rattle.list_definitions.specs.Machine.{InstructionList, scan_list}
use Rattle.list_definitions.specs.Questions.{question10, question17 as list_question17, list_answer}
use Rattle.list_definitions.proofs.Theorems.{call_times_add_up}
use Rattle.list_definitions.specs.ListScan.{ListScanCall, counts_of as list_counts_of, list_of, call_list_scan, scan_ends as list_ends, scan_questions as list_scan_questions}
use Rattle.list_definitions.proofs.Laws.Answers.{passed_scan as list_passed_scan}
use Rattle.list_definitions.proofs.Laws.Writes.{list_vars}
use Rattle.translation_definitions.specs.Translate.{translate}
use Rattle.translation_definitions.specs.TranslateKept.{counts_of, list_buffers, translated, translate_kept}
use Rattle.translation_definitions.specs.Demand3.{EndedAlike, SameSum, StoppedAlike}
use Rattle.translation_definitions.specs.Agreement.{Agreement, SumsAgree, TimesAgree}
use Rattle.translation_definitions.specs.Calls.{Given, CallsAlike, CallsSums, CallsTimes, ScansAgree, CallsAgree, TimersRefused}
use Rattle.translation_definitions.proofs.Laws.Answers.{call_written}
use Rattle.translation_definitions.proofs.Laws.Lists.{below_all, translated_agrees, translated_sums, translated_times}
use Rattle.translation_definitions.proofs.Laws.Timed.{same_question17}
use Rattle.translation_definitions.proofs.Laws.Legal.{list_in_range_lem, list_decodes, watchdog_in_range as most_in_range}

-- ---- both scans, where the list is the ladder's

-- what demand 3 asks of ladder, table, timer records and rung watchdog: Ladder scan's questions all get a "yes"
module _ (vars : ℕ) (kept : Kept) (table : List ℕ) (timers : List Timer) (now n : ℕ) (ok : ScanPassed vars kept table timers n) where
  abbrev gs : Ladder
  gs = ladder_of kept

  abbrev s : State
  s = state_of vars table timers now

  abbrev list : InstructionList
  list = translate vars gs

  abbrev words : List ℕ
  words = map instr_word list.code

  abbrev most : ℕ
  most = longest list.records

  abbrev ladder_call : LadderScanCall
  ladder_call = call_ladder_scan vars kept table timers now n

  abbrev list_call : ℕ → ListScanCall
  list_call w = call_list_scan vars words list.records table timers now w

  pub taken : Accepted vars gs
  taken = (accepted vars kept ok.accepted).1

  legal : Legal s
  legal = record { table = ok.legal_table; timers = ok.legal_timers }

  agrees : Agreement 2 gs list s n
  agrees = translated_agrees vars gs taken s n (alike_self s legal)

  sums : SumsAgree gs list s n
  sums = translated_sums vars gs taken s n (alike_self s legal)

  times : TimesAgree gs list s n
  times = translated_times vars gs taken s n (alike_self s legal)

  pub ladder_call_lem : ladder_call ≡ ladder_ends (scan_ladder gs n s)
  unfolding call_ladder_scan
  ladder_call_lem = rw (passed_scan vars kept table timers n ok, call_ladder_scan)

  code_held : code_of words ≡ list.code
  unfolding code_of
  code_held = rw (list_decodes vars gs taken, code_of)

  list_held : list_of words list.records ≡ list
  unfolding list_of
  list_held = λ i. record { code = code_held i; records = list.records }

  pub list_call_lem : (w : ℕ) → question12 most_instruction_watchdog w ≡ none → list_call w ≡ list_ends (scan_list list w s)
  unfolding call_list_scan
  list_call_lem w h =
      let known : list_question17 (length timers) (code_of words) ≡ none = ap (list_question17 (length timers)) code_held ∙ sym (same_question17 vars (length timers) gs taken) ∙ ok.known_timers in
      let q = list_passed_scan vars words list.records table timers w
      (record { range = taken.range; legal_timers = ok.legal_timers; list = list_in_range_lem vars gs taken; known_timers = known; legal_table = ok.legal_table; watchdog = h }) in
      rw (q, call_list_scan) (ap (λ l. list_ends (scan_list l w s)) list_held)

  -- a field for each record, and together the rungs entered
  pub list_times : (w : ℕ) → question12 most_instruction_watchdog w ≡ none
      → (length (scan_list list w s).counts.times ≡ length list.records) × (sum (scan_list list w s).counts.times ≡ (scan_list list w s).counts.rungs)
  unfolding list_ends
  list_times w h =
      let x = scan_list list w s in
      rw (list_call_lem w h) at (call_times_add_up vars words list.records table timers now w x.halt (list_counts_of x) (ap (λ c. c.answer) (list_call_lem w h)) [])

  -- what the ladder scan's answer tells
  answered : (h : Halt) (c : LadderCounts) → ladder_call.answer ≡ ladder_scanned h c
      → ((scan_ladder gs n s).halt ≡ h) × ((scan_ladder gs n s).rungs ≡ c.rungs) × ((scan_ladder gs n s).state.moved ≡ c.moved)
  answered h c e =
      let counts = counted vars kept table timers now n h c e in
      (halt_told vars kept table timers now n h c e, ap (λ (d : LadderCounts). d.rungs) counts, ap (λ (d : LadderCounts). d.moved) counts)

  ended_calls : (w : ℕ) (c : LadderCounts) → ladder_call.answer ≡ ladder_scanned Ended c → question12 most_instruction_watchdog w ≡ none → c.rungs * most ≤ w
      → EndedAlike 2 most c.rungs (state_of vars ladder_call.table ladder_call.timers now) (list_call w).answer (state_of vars (list_call w).table (list_call w).timers now)
  unfolding ladder_ends list_ends
  ended_calls w c e h room =
      let a = answered Ended c e in
      let x = agrees.ended w a.0 (rw a.1 room) in
      let stays = scan_stays gs n s (below_all vars gs taken) (timers_below vars timers ok.legal_timers) in
      rw (ladder_call_lem, list_call_lem w h, ← a.1) (record {
        counts = x.counts;
        ended = x.ended;
        same = same_tables vars now stays.same_vars (list_vars list w s) x.same;
        rungs = x.rungs;
        at_least = x.at_least;
        at_most = x.at_most;
      })

  sums_calls : (w : ℕ) (c : LadderCounts) → ladder_call.answer ≡ ladder_scanned Ended c → question12 most_instruction_watchdog w ≡ none → c.rungs * most ≤ w
      → SameSum c.moved (list_call w).answer
  sums_calls w c e h room =
      let a = answered Ended c e in
      rw (list_call_lem w h, ← a.2) (sums.ended w a.0 (rw a.1 room))

  times_calls : (w : ℕ) (c : LadderCounts) → ladder_call.answer ≡ ladder_scanned Ended c → question12 most_instruction_watchdog w ≡ none → c.rungs * most ≤ w
      → (before : List ℕ) → (list_call w).times before ≡ times_entered gs n s
  unfolding list_ends
  times_calls w c e h room before =
      let a = answered Ended c e in
      ap (λ (x : ListScanCall). x.times before) (list_call_lem w h) ∙ times.ended w a.0 (rw a.1 room)

  stopped_calls : (w : ℕ) (c : LadderCounts) → ladder_call.answer ≡ ladder_scanned Stopped c → w ≤ 2 * n → StoppedAlike (list_call w).answer
  stopped_calls w c e few =
      let most = watchdog_in_range most_rung_watchdog n ok.watchdog in
      rw (list_call_lem w (in_range_watchdog most_instruction_watchdog w (omega arith))) (agrees.stopped w (answered Stopped c e).0 few)

  pub scans_alike : ScansAgree vars kept words list.records most table timers now n
  unfolding list_answer first_no ladder_ends CallsAlike CallsSums CallsTimes
  scans_alike =
      let few = few_rungs gs n s in
      let most = watchdog_in_range most_rung_watchdog n ok.watchdog in
      record {
        list_accepted = rw (taken.range, list_in_range_lem vars gs taken);
        halt = (scan_ladder gs n s).halt;
        counts = ladder_counts_of (scan_ladder gs n s);
        scanned = ap (λ c. c.answer) ladder_call_lem;
        ended_watchdog = most_in_range vars gs taken (scan_ladder gs n s).rungs (omega arith);
        stopped_watchdog = in_range_watchdog most_instruction_watchdog (2 * n) (omega arith);
        stopped_at = stopped_rungs gs n s;
        alike = λ w. record { ended = λ c. ended_calls w c; stopped = λ c. stopped_calls w c };
        sums = λ w. record { ended = λ c. sums_calls w c };
        times = times_calls;
      }

-- ---- what Translate wrote, taken out again

module _ (list : InstructionList) (lent : Buffers) where
  abbrev new : Buffers
  new = list_buffers list

  abbrev wrote : List ℕ
  wrote = map instr_word list.code

  pub words_out : written_words (written_over (list_buffers list) lent) (counts_of list).instructions ≡ map instr_word list.code
  unfolding written_words written_over counts_of as_buffers
  words_out = rw (← (length-map list.code instr_word)) (written_first wrote lent.words)

  pub records_out : written_records (written_over (list_buffers list) lent) (counts_of list).rungs ≡ list.records
  unfolding written_records written_over counts_of
  records_out =
      let ls = first_written (length list.records) new.labels lent.labels (labels_count wrote list.records _) in
      let os = first_written (length list.records) new.offsets lent.offsets (offsets_count wrote list.records _) in
      let ns = first_written (length list.records) new.lengths lent.lengths (lengths_count wrote list.records _) in
      let ts = first_written (length list.records) new.times lent.times (times_count wrote list.records) in
      (λ i. row_of (ls i) (os i) (ns i) (ts i)) ∙ row_of_new wrote list.records

pub translate_call : (vars : ℕ) (k : Kept) (lent : Buffers) → ladder_answer vars k ≡ none → question13 (needs (list_buffers (translate vars (ladder_of k))) lent) ≡ none
    → translate_kept vars k lent ≡ record { answer = translated (counts_of (translate vars (ladder_of k))); buffers = written_over (list_buffers (translate vars (ladder_of k))) lent }
unfolding first_no
translate_call vars k lent ok room = call_written vars k lent (rw (ok, room))

-- the hypotheses of demand 3 are Ladder scan's questions
pub given_passed : (vars : ℕ) (k : Kept) (lent : Buffers) (table : List ℕ) (timers : List Timer) (n : ℕ) → Given vars k lent table timers n → ScanPassed vars k table timers n
given_passed vars k lent table timers n g =
    record { accepted = g.accepted; legal_timers = g.timers_legal; known_timers = g.timers_known; legal_table = g.legal; watchdog = g.watchdog }

pub calls_alike : (vars : ℕ) (k : Kept) (lent : Buffers) (table : List ℕ) (timers : List Timer) (now n : ℕ) → Given vars k lent table timers n → CallsAgree vars k lent table timers now n
unfolding counts_of
calls_alike vars k lent table timers now n g =
    let list = translate vars (ladder_of k) in
    let e = translate_call vars k lent g.accepted g.room in
    record {
      counts = counts_of list;
      translated = ap (λ c. c.answer) e;
      scans = rw (e, words_out list lent, records_out list lent) (scans_alike vars k table timers now n (given_passed vars k lent table timers n g));
    }
