-- The call List scan: its answer, the table, the times entered and the timer records afterwards, for all inputs. Document 01, "What a list does", "Questions
-- before work"; 02, Req 04 and 06. Assumes nothing.
use Rattle.std.specs.Prelude.{ℕ, ◌≡◌, List, [], ◌∷◌, length, Result, Ok, Err}
use Rattle.std.proofs.Math.Option.{none, some}
use Rattle.questions.specs.Questions.{Refusal, Answer, first_no, question1, question12, most_instruction_watchdog}
use Rattle.questions.specs.Refusals.{refusal_of}
use Rattle.questions.specs.declared.Refusal.{Refusal as RefusalCase}
use Rattle.table.specs.Timer.{Timer}
use Rattle.table.specs.State.{state_of}
use Rattle.table.specs.TimerRecords.{Columns, column_timers, columns_after, number_timers, numbers_after}
use Rattle.table.specs.Halt.{Halt, Ended, Stopped}
use Rattle.table.specs.declared.Halt.{Halt as HaltCase}
use Rattle.table.specs.declared.Halt.TheVariants.{Ended as EndedCase, Stopped as StoppedCase}
use Rattle.table.specs.Questions.{question11, question16}
use Rattle.rungs.specs.Records.{RungRecord}
use Rattle.list_definitions.specs.Instruction.{code_of}
use Rattle.list_definitions.specs.Machine.{InstructionList, ListResult, scan_list}
use Rattle.list_definitions.specs.Questions.{question10, question17}
use Rattle.list_definitions.specs.declared.Counts.{Counts as CountsStruct}

-- the counts that List scan answers: the instructions carried out, the rungs entered, and how many times a variable was turned over (02, Req 02: "both scans
-- add these up in their answers, Stopped ones included")
pub record ListCounts : Type 0 where
  pub instructions : ℕ
  pub rungs : ℕ
  pub moved : ℕ

-- those of a scan
abbrev pub counts_of : ListResult → ListCounts
counts_of x = record { instructions = x.counts.instructions; rungs = x.counts.rungs; moved = x.state.moved }

-- Ended or Stopped with its counts, or the refusal
pub data ListScanAnswer : Type 0 where
  scanned : Halt → ListCounts → ListScanAnswer
  refused : Refusal → ListScanAnswer

-- answer, table and timer records; and the times entered afterwards, from those that stood there before
pub record ListScanCall : Type 0 where
  pub answer : ListScanAnswer
  pub table : List ℕ
  pub timers : List Timer
  pub times : List ℕ → List ℕ

-- the list that instruction words and records hold
unfoldable pub list_of : List ℕ → List RungRecord → InstructionList
list_of words rs = record { code = code_of words; records = rs }

-- 02, Req 04: a list scan, Stopped ones included, "sets every field for that scan alone"
unfoldable pub scan_ends : ListResult → ListScanCall
scan_ends x = record { answer = scanned x.halt (counts_of x); table = x.state.bytes; timers = x.state.timers; times = λ before. x.counts.times }

-- questions 1, 16, 10, 17, 11 and 12, in order: 02, Req 06, "16 .., after question 1; 17 .., after .. question 10 for lists"
unfoldable pub scan_questions : ℕ → List ℕ → List RungRecord → List ℕ → List Timer → ℕ → Answer
scan_questions vars words rs table timers watchdog =
    first_no (question1 vars
    ∷ question16 vars timers
    ∷ question10 vars words rs
    ∷ question17 (length timers) (code_of words)
    ∷ question11 vars table
    ∷ question12 most_instruction_watchdog watchdog
    ∷ [])

-- a refusal leaves the table and the timer records, "touches none" of the times entered, and else the list is scanned, at the tick `now`
unfoldable pub call_list_scan : ℕ → List ℕ → List RungRecord → List ℕ → List Timer → ℕ → ℕ → ListScanCall
call_list_scan vars words rs table timers now watchdog = elim (scan_questions vars words rs table timers watchdog) [
  | some refusal ↦ record { answer = refused refusal; table = table; timers = timers; times = λ before. before }
  | none ↦ scan_ends (scan_list (list_of words rs) watchdog (state_of vars table timers now))
]

-- the counts in the struct Counts
unfoldable pub counts_in : CountsStruct → ListCounts
counts_in c = record { instructions = c.instructions; rungs = c.rungs; moved = c.moved }

-- what list_scan answers
abbrev pub ListScanned : Type 0
ListScanned = Result (HaltCase CountsStruct) RefusalCase

-- document 01's values for each case of it
unfoldable pub list_scanned_answer : ListScanned → ListScanAnswer
list_scanned_answer (Ok (EndedCase c)) = scanned Ended (counts_in c)
list_scanned_answer (Ok (StoppedCase c)) = scanned Stopped (counts_in c)
list_scanned_answer (Err refusal) = refused (refusal_of refusal)

-- the promise of list_scan: answer, table, timer records and times entered are those of the definition
pub record ListScanDone (call : ListScanCall) (r : ListScanned) (table : List ℕ) (timers : List Timer) (before after : List ℕ) : Type 0 where
  pub answer : list_scanned_answer r ≡ call.answer
  pub same_table : table ≡ call.table
  pub same_timers : timers ≡ call.timers
  pub same_times : after ≡ call.times before

-- 02, Req 06: the same where the timer records are lent as one slice with five numbers for each, ns before and ms afterwards,
pub record ListScanNumbers (call : ListScanCall) (r : ListScanned) (table ns ms before after : List ℕ) : Type 0 where
  pub done : ListScanDone call r table (number_timers ms) before after
  pub numbers : ms ≡ numbers_after ns call.timers

-- and where they are lent as five slices, c before and d afterwards
pub record ListScanColumns (call : ListScanCall) (r : ListScanned) (table : List ℕ) (c d : Columns) (before after : List ℕ) : Type 0 where
  pub done : ListScanDone call r table (column_timers d) before after
  pub slices : d ≡ columns_after c call.timers
