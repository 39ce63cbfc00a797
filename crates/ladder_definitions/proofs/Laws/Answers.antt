-- What an answer of Ladder scan that is no refusal tells: of the scan, and of its writes. Assumes nothing.
use Rattle.std.specs.Prelude.{ℕ, ◌*◌, ◌≤◌, List}
use Rattle.std.proofs.Common.{arith, ap, ◌∙◌}
use Rattle.std.proofs.Math.Path.{◌≡◌, refl, sym}
use Rattle.std.proofs.Math.Option.{none, some}
use Rattle.questions.specs.Questions.{Answer}
use Rattle.table.specs.Timer.{Timer}
use Rattle.table.specs.State.{State, state_of}
use Rattle.table.specs.Halt.{Halt}
use Rattle.table.specs.Writes.{WritesTell}
use Rattle.table.proofs.Laws.Changes.{makes_tell}
use Rattle.ladder_definitions.specs.Meaning.{LadderResult, scan_ladder}
use Rattle.ladder_definitions.specs.Kept.{Kept}
use Rattle.ladder_definitions.specs.Questions.{ladder_of}
use Rattle.ladder_definitions.specs.LadderScan.{LadderCounts, LadderScanCall, counts_of, scanned, refused, scan_ends, scan_questions, call_ladder_scan}
use Rattle.ladder_definitions.specs.Writes.{ladder_writes, most_rung_writes}
use Rattle.ladder_definitions.proofs.Laws.Accepting.{accepted, sized, ScanPassed, scan_passed}
use Rattle.ladder_definitions.proofs.Laws.Watchdog.{few_rungs}
use Rattle.ladder_definitions.proofs.Laws.Writes.{ladder_makes, ladder_moved}

module _ (vars : ℕ) (k : Kept) (table : List ℕ) (timers : List Timer) (now n : ℕ) where
  abbrev begun : State
  begun = state_of vars table timers now

  abbrev scan : LadderResult
  scan = scan_ladder (ladder_of k) n begun

  abbrev made : LadderScanCall
  made = call_ladder_scan vars k table timers now n

  -- every question got a "yes", and the ladder was scanned
  pub record Asked : Type 0 where
    pub passed : ScanPassed vars k table timers n
    pub call : made ≡ scan_ends scan

  module _ (h : Halt) (c : LadderCounts) (e : made.answer ≡ scanned h c) where
    pub asked : Asked
    unfolding call_ladder_scan
    asked = go (scan_questions vars k table timers n) refl
      where
        go : (a : Answer) → scan_questions vars k table timers n ≡ a → Asked
        go none q = record { passed = scan_passed vars k table timers n q; call = rw (q, call_ladder_scan) }
        go (some refusal) q =
            let r : refused refusal ≡ scanned h c = rw (q, call_ladder_scan) at e in
            let z : ◌≡◌ {A = ℕ} 0 1 = cc in
            absurd (omega arith)

    same_answer : scanned scan.halt (counts_of scan) ≡ scanned h c
    unfolding scan_ends
    same_answer = sym (ap (λ x. x.answer) asked.call) ∙ e

    -- it tells how the scan halted,
    pub halt_told : scan.halt ≡ h
    halt_told = let z = same_answer in cc

    -- and its counts
    pub counted : counts_of scan ≡ c
    counted = let z = same_answer in cc

    pub writes_tell : WritesTell vars (ladder_writes (ladder_of k) n begun) table c.moved made.table
    unfolding scan_ends
    writes_tell = rw (asked.call, ← counted) (makes_tell vars _ table timers now scan.state asked.passed.legal_table (ladder_makes (ladder_of k) n begun))

    pub sum_few : c.moved ≤ most_rung_writes * c.rungs
    sum_few =
        let taken = (accepted vars k asked.passed.accepted).1 in
        let few = ladder_moved (ladder_of k) n begun (sized (ladder_of k) taken.sizes).words_a_rung in
        rw (← counted) (omega arith)

    pub rungs_few : c.rungs ≤ n
    rungs_few = rw (← counted) (few_rungs (ladder_of k) n begun)
