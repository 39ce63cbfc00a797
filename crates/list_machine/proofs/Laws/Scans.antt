-- The call List scan from its scan, for any records that its questions took. Assumes nothing.
use Rattle.std.specs.Prelude.{Ok, ℕ, ◌≡◌, List, length}
use Rattle.std.proofs.Math.Path.{refl}
use Rattle.std.proofs.Math.Option.{none}
use Rattle.questions.proofs.Laws.Answers.{ask_passed}
use Rattle.table.specs.Timer.{Timer}
use Rattle.table.specs.State.{state_of}
use Rattle.rungs.specs.Records.{RungRecord, offsets}
use Rattle.list_definitions.specs.Questions.{list_in_range, question10}
use Rattle.list_definitions.specs.ListScan.{list_of, scan_questions, call_list_scan, ListScanDone}
use Rattle.list_machine.specs.Parts.{Ran}
use Rattle.list_definitions.specs.declared.Counts.{Counts as CountsStruct}
use Rattle.table.specs.declared.Halt.{Halt as HaltCase}
use Rattle.list_definitions.proofs.Laws.Answers.{scan_passed}
use Rattle.list_definitions.proofs.Laws.InRange.{InRange, list_in_range_lem}
use Rattle.list_machine.proofs.Laws.Seeks.{laid_ascend}

module _ (vars : ℕ) (ws : List ℕ) (rs : List RungRecord) (t : List ℕ) (timers : List Timer) (w : ℕ) where
  -- question 10 got a "yes"
  pub scan_in_range : scan_questions vars ws rs t timers w ≡ none → InRange vars ws rs
  unfolding question10
  scan_in_range e = list_in_range_lem vars ws rs (ask_passed 10 (list_in_range vars ws rs) (scan_passed vars ws rs t timers w e).list)

  pub scan_scans : (now : ℕ) (before : List ℕ) (r : HaltCase CountsStruct) (after u : List ℕ) (left : List Timer) → scan_questions vars ws rs t timers w ≡ none
      → Ran ws (offsets rs) before (state_of vars t timers now) w r after u left → ListScanDone (call_list_scan vars ws rs t timers now w) (Ok r) u left before after
  unfolding call_list_scan list_of
  scan_scans now before r after u left e ran =
      let a = scan_in_range e in
      let d = ran.same (list_of ws rs) a.held refl (laid_ascend 0 (length ws) rs a.lies a.some_length) in
      record {
        answer = rw (e, call_list_scan) d.answer;
        same_table = rw (e, call_list_scan) d.same_table;
        same_timers = rw (e, call_list_scan) d.same_timers;
        same_times = rw (e, call_list_scan) d.same_times;
      }
