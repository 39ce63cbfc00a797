-- The call Ladder scan: its answer, the table and the timer records afterwards, for all inputs. Document 01, "What a ladder does", "Questions before work"; 02,
-- Req 06. Assumes nothing.
use Rattle.std.specs.Prelude.{ℕ, ◌≡◌, List, [], ◌∷◌, ◌++◌, length, Result, Ok, Err}
use Rattle.std.proofs.Math.Option.{none, some}
use Rattle.questions.specs.Questions.{Refusal, Answer, first_no, question1, question12, most_rung_watchdog}
use Rattle.questions.specs.Refusals.{refusal_of}
use Rattle.questions.specs.declared.Refusal.{Refusal as RefusalCase}
use Rattle.table.specs.Timer.{Timer}
use Rattle.table.specs.State.{state_of}
use Rattle.table.specs.TimerRecords.{Columns, column_timers, columns_after, number_timers, numbers_after}
use Rattle.table.specs.Halt.{Halt, Ended, Stopped}
use Rattle.table.specs.declared.Halt.{Halt as HaltCase}
use Rattle.table.specs.declared.Halt.TheVariants.{Ended as EndedCase, Stopped as StoppedCase}
use Rattle.table.specs.Questions.{question11, question16}
use Rattle.ladder_definitions.specs.Meaning.{LadderResult, scan_ladder}
use Rattle.ladder_definitions.specs.Kept.{Kept}
use Rattle.ladder_definitions.specs.Questions.{ladder_of, question9, question17, form_questions}
use Rattle.ladder_definitions.specs.declared.Counts.{Counts as CountsStruct}

-- the counts that Ladder scan answers: the rungs entered, and how many times a variable was turned over (02, Req 02: "both scans add these up in their answers,
-- Stopped ones included")
pub record LadderCounts : Type 0 where
  pub rungs : ℕ
  pub moved : ℕ

-- those of a scan
abbrev pub counts_of : LadderResult → LadderCounts
counts_of x = record { rungs = x.rungs; moved = x.state.moved }

-- Ended or Stopped with its counts, or the refusal
pub data LadderScanAnswer : Type 0 where
  scanned : Halt → LadderCounts → LadderScanAnswer
  refused : Refusal → LadderScanAnswer

pub record LadderScanCall : Type 0 where
  pub answer : LadderScanAnswer
  pub table : List ℕ
  pub timers : List Timer

unfoldable pub scan_ends : LadderResult → LadderScanCall
scan_ends x = record { answer = scanned x.halt (counts_of x); table = x.state.bytes; timers = x.state.timers }

-- questions 1, 16, 4 to 8, 17, 9, 11 and 12, in order: 02, Req 06, "16 .., after question 1; 17 .., after question 8 for ladders"
unfoldable pub scan_questions : ℕ → Kept → List ℕ → List Timer → ℕ → Answer
scan_questions vars k table timers watchdog =
    let gs = ladder_of k in
    first_no (question1 vars
    ∷ question16 vars timers
    ∷ form_questions vars k
    ++ question17 (length timers) gs
    ∷ question9 gs
    ∷ question11 vars table
    ∷ question12 most_rung_watchdog watchdog
    ∷ [])

-- a refusal leaves the table and the timer records, and else the ladder is scanned, at the tick `now`
unfoldable pub call_ladder_scan : ℕ → Kept → List ℕ → List Timer → ℕ → ℕ → LadderScanCall
call_ladder_scan vars k table timers now watchdog = elim (scan_questions vars k table timers watchdog) [
  | some refusal ↦ record { answer = refused refusal; table = table; timers = timers }
  | none ↦ scan_ends (scan_ladder (ladder_of k) watchdog (state_of vars table timers now))
]

-- the counts in the struct Counts
abbrev pub counts_in : CountsStruct → LadderCounts
counts_in c = record { rungs = c.rungs; moved = c.moved }

-- what ladder_scan answers
abbrev pub LadderScanned : Type 0
LadderScanned = Result (HaltCase CountsStruct) RefusalCase

-- document 01's values for each case of it
unfoldable pub ladder_scanned_answer : LadderScanned → LadderScanAnswer
ladder_scanned_answer (Ok (EndedCase c)) = scanned Ended (counts_in c)
ladder_scanned_answer (Ok (StoppedCase c)) = scanned Stopped (counts_in c)
ladder_scanned_answer (Err refusal) = refused (refusal_of refusal)

-- the promise of ladder_scan: answer, table and timer records are those of the definition
pub record LadderScanDone (call : LadderScanCall) (r : LadderScanned) (table : List ℕ) (timers : List Timer) : Type 0 where
  pub answer : ladder_scanned_answer r ≡ call.answer
  pub same_table : table ≡ call.table
  pub same_timers : timers ≡ call.timers

-- 02, Req 06: the same where the timer records are lent as one slice with five numbers for each, ns before and ms afterwards,
pub record LadderScanNumbers (call : LadderScanCall) (r : LadderScanned) (table ns ms : List ℕ) : Type 0 where
  pub done : LadderScanDone call r table (number_timers ms)
  pub numbers : ms ≡ numbers_after ns call.timers

-- and where they are lent as five slices, c before and d afterwards
pub record LadderScanColumns (call : LadderScanCall) (r : LadderScanned) (table : List ℕ) (c d : Columns) : Type 0 where
  pub done : LadderScanDone call r table (column_timers d)
  pub slices : d ≡ columns_after c call.timers
