-- Laws of the call Ladder scan, whatever the records are: a "no" is its answer and leaves the table and the timer records, and with every "yes" the scan is the
-- call. Assumes nothing.
use Rattle.std.specs.Prelude.{ℕ, ◌≡◌, List}
use Rattle.std.proofs.Common.{arith}
use Rattle.std.proofs.Math.Path.{ap}
use Rattle.std.proofs.Math.Option.{none, some}
use Rattle.std.proofs.Math.ListN.{length}
use Rattle.questions.specs.Questions.{most_rung_watchdog}
use Rattle.questions.specs.Refusals.{refusal_of}
use Rattle.questions.proofs.Laws.Answers.{watchdog_in_range}
use Rattle.questions.specs.declared.Refusal.{Refusal as RefusalCase}
use Rattle.table.specs.Timer.{Timer}
use Rattle.table.specs.State.{state_of}
use Rattle.rungs.specs.Records.{labels, offsets}
use Rattle.ladder_definitions.specs.Kept.{Kept, encode, decode}
use Rattle.ladder_definitions.specs.Questions.{ladder_of, Accepted}
use Rattle.ladder_definitions.specs.LadderScan.{scan_questions, call_ladder_scan, LadderScanned, ladder_scanned_answer, LadderScanDone}
use Rattle.ladder_scanning.specs.Scanned.{WithinLimits, Scanned}
use Rattle.ladder_definitions.proofs.Laws.Accepting.{encode_decode, accepted, scan_passed, sized}
use Rattle.ladder_definitions.proofs.Laws.Held.{kept_held}
use Rattle.std.specs.Prelude.{Err}

module _ (vars : ℕ) (k : Kept) (t : List ℕ) (ts : List Timer) (w : ℕ) where
  -- every question got a "yes": the words and records hold a ladder
  pub scan_taken : scan_questions vars k t ts w ≡ none → (decode k ≡ some (ladder_of k)) × Accepted vars (ladder_of k)
  scan_taken e = accepted vars k (scan_passed vars k t ts w e).accepted

  pub scan_fits : scan_questions vars k t ts w ≡ none → WithinLimits k.words w
  unfolding encode
  scan_fits e =
      let gs = ladder_of k in
      let h = scan_taken e in
      let most = (sized gs h.1.sizes).words in
      let same : length k.words ≡ length (encode gs).words = ap (λ x. length x.words) (encode_decode k gs h.0).0 in
      record { words = omega (arith, most, same); rungs = watchdog_in_range most_rung_watchdog w (scan_passed vars k t ts w e).watchdog }

  module _ (now : ℕ) where
    pub scan_refuses : (x : RefusalCase) → scan_questions vars k t ts w ≡ some (refusal_of x) → LadderScanDone (call_ladder_scan vars k t ts now w) (Err x) t ts
    unfolding call_ladder_scan ladder_scanned_answer
    scan_refuses x e = record { answer = rw (e, call_ladder_scan); same_table = rw (e, call_ladder_scan); same_timers = rw (e, call_ladder_scan) }

    pub scan_scans : scan_questions vars k t ts w ≡ none → (r : LadderScanned) (u : List ℕ) (us : List Timer)
        → Scanned k.words (labels k.records) (offsets k.records) (state_of vars t ts now) w r u us → LadderScanDone (call_ladder_scan vars k t ts now w) r u us
    unfolding call_ladder_scan
    scan_scans e r u us scanned =
        let d = scanned.same (ladder_of k) (kept_held k (ladder_of k) (scan_taken e).0) in
        record {
          answer = rw (e, call_ladder_scan) d.answer;
          same_table = rw (e, call_ladder_scan) d.same_table;
          same_timers = rw (e, call_ladder_scan) d.same_timers;
        }
