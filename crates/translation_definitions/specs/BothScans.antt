-- Both scans of one table: a ladder is translated, and the ladder and its list are scanned, "each" begun "on a copy of that table" (demand 3).
-- Not a call of document 01: what a fault book can cite. Every question is put before the first store. Assumes nothing.
use Rattle.std.specs.Prelude.{ℕ, ◌*◌, ◌≡◌, List, [], ◌∷◌, ◌++◌, map, eqb, length, Result, Ok, Err}
use Rattle.std.proofs.Math.Option.{none, some}
use Rattle.questions.specs.Questions.{Refusal, Answer, ask, first_no, question12, question13, most_instruction_watchdog}
use Rattle.questions.specs.Refusals.{refusal_of}
use Rattle.questions.specs.declared.Refusal.{Refusal as RefusalCase}
use Rattle.table.specs.Halt.{Halt, Ended, Stopped, halt_of, halt_counts}
use Rattle.table.specs.State.{State, state_of}
use Rattle.table.specs.TimerRecords.{timer_numbers, number_timers}
use Rattle.rungs.specs.Buffers.{Buffers, as_buffers, needs, written_over}
use Rattle.rungs.specs.Records.{longest}
use Rattle.ladder_definitions.specs.Kept.{Kept}
use Rattle.ladder_definitions.specs.Meaning.{scan_ladder}
use Rattle.ladder_definitions.specs.Questions.{ladder_of}
use Rattle.ladder_definitions.specs.LadderScan.{scan_questions, LadderCounts, counts_of as ladder_counts_of, counts_in as ladder_counts_in}
use Rattle.list_definitions.specs.Instruction.{instr_word}
use Rattle.list_definitions.specs.Machine.{InstructionList, scan_list}
use Rattle.list_definitions.specs.ListScan.{ListCounts, counts_of as list_counts_of, counts_in as list_counts_in}
use Rattle.translation_definitions.specs.Translate.{translate}
use Rattle.translation_definitions.specs.TranslateKept.{Counts, counts_of, counts_in, list_buffers}
use Rattle.translation_definitions.specs.declared.BothEnds.{BothEnds as EndsStruct}

-- the two lent tables and the two lent rows of timer records, which become the copies, and the buffers for the list; a row of timer records is one slice with
-- five numbers for each
pub record Lent : Type 0 where
  pub ladder_table : List ℕ
  pub list_table : List ℕ
  pub ladder_timers : List ℕ
  pub list_timers : List ℕ
  pub buffers : Buffers

abbrev pub lends : List ℕ → List ℕ → List ℕ → List ℕ → Buffers → Lent
lends ladder_table list_table ladder_timers list_timers buffers =
    record { ladder_table = ladder_table; list_table = list_table; ladder_timers = ladder_timers; list_timers = list_timers; buffers = buffers }

-- 11 or 16, of a copy: it is lent as many entries as what is copied has
unfoldable pub copy_question : ℕ → ℕ → ℕ → Answer
copy_question number entries lent = ask number (eqb lent entries)

-- 16 of the two copies of the timer records and 11 of the two copies of the table, which are lent so many numbers and bytes
abbrev pub copy_questions : List ℕ → List ℕ → ℕ → ℕ → ℕ → ℕ → List Answer
copy_questions table timers ladder_numbers list_numbers ladder_bytes list_bytes =
    copy_question 16 (length timers) ladder_numbers
    ∷ copy_question 16 (length timers) list_numbers
    ∷ copy_question 11 (length table) ladder_bytes
    ∷ copy_question 11 (length table) list_bytes
    ∷ []

-- Ladder scan's questions in their order, of the rung watchdog n; those of the copies; 12 of the instruction watchdog w; 13 of the list's buffers
unfoldable pub both_questions : ℕ → Kept → List ℕ → List ℕ → Lent → ℕ → ℕ → List Answer
both_questions vars k table timers lent n w =
    scan_questions vars k table (number_timers timers) n
    ∷ copy_questions table timers (length lent.ladder_timers) (length lent.list_timers) (length lent.ladder_table) (length lent.list_table)
    ++ (question12 most_instruction_watchdog w ∷ question13 (needs (list_buffers (translate vars (ladder_of k))) lent.buffers) ∷ [])

-- Translate's counts, and how each scan halted, with its counts
pub record BothEnds : Type 0 where
  pub counts : Counts
  pub ladder_halt : Halt
  pub ladder : LadderCounts
  pub list_halt : Halt
  pub list : ListCounts

pub data BothAnswer : Type 0 where
  both : BothEnds → BothAnswer
  refused : Refusal → BothAnswer

pub record BothCall : Type 0 where
  pub answer : BothAnswer
  pub lent : Lent

-- a list as Translate writes it, with the times that a scan of it entered each rung
abbrev pub scanned_buffers : InstructionList → List ℕ → Buffers
scanned_buffers list times = as_buffers (map instr_word list.code) list.records times

-- the state that both scans begin in
abbrev pub begun : ℕ → List ℕ → List ℕ → ℕ → State
begun vars table timers now = state_of vars table (number_timers timers) now

-- A refusal leaves all that was lent. Else the list stands in the buffers, with the times that its scan set, and each scan's table and timer records in its
-- copies.
unfoldable pub both_scans : ℕ → Kept → List ℕ → List ℕ → ℕ → Lent → ℕ → ℕ → BothCall
both_scans vars k table timers now lent n w =
    let list = translate vars (ladder_of k) in
    let x = scan_ladder (ladder_of k) n (begun vars table timers now) in
    let y = scan_list list w (begun vars table timers now) in
    elim (first_no (both_questions vars k table timers lent n w)) [
      | some refusal ↦ record { answer = refused refusal; lent = lent }
      | none ↦ record {
        answer = both (record { counts = counts_of list; ladder_halt = x.halt; ladder = ladder_counts_of x; list_halt = y.halt; list = list_counts_of y });
        lent = lends x.state.bytes y.state.bytes (timer_numbers x.state.timers) (timer_numbers y.state.timers)
            (written_over (scanned_buffers list y.counts.times) lent.buffers);
      }
    ]

-- demand 3's instruction watchdog: k × L where the ladder scan ended with k rungs entered, 2 × n where it stopped at n
unfoldable pub instruction_watchdog : Halt → ℕ → ℕ → ℕ → ℕ
instruction_watchdog Ended k longest n = k * longest
instruction_watchdog Stopped k longest n = 2 * n

unfoldable pub paired_watchdog : ℕ → Kept → List ℕ → List ℕ → ℕ → ℕ → ℕ
paired_watchdog vars k table timers now n =
    let x = scan_ladder (ladder_of k) n (begun vars table timers now) in
    instruction_watchdog x.halt x.rungs (longest (translate vars (ladder_of k)).records) n

-- Both scans, the list's under demand 3's instruction watchdog.
abbrev pub paired_scans : ℕ → Kept → List ℕ → List ℕ → ℕ → Lent → ℕ → BothCall
paired_scans vars k table timers now lent n = both_scans vars k table timers now lent n (paired_watchdog vars k table timers now n)

-- the values in the struct BothEnds
unfoldable pub ends_in : EndsStruct → BothEnds
ends_in e =
    record {
      counts = counts_in e.counts;
      ladder_halt = halt_of e.ladder;
      ladder = ladder_counts_in (halt_counts e.ladder);
      list_halt = halt_of e.list;
      list = list_counts_in (halt_counts e.list);
    }

-- what both_scans and paired_scans answer
abbrev pub BothScanned : Type 0
BothScanned = Result EndsStruct RefusalCase

-- the values of each case of it
unfoldable pub both_scanned_answer : BothScanned → BothAnswer
both_scanned_answer (Ok ends) = both (ends_in ends)
both_scanned_answer (Err refusal) = refused (refusal_of refusal)

-- the first promise of both_scans and paired_scans: answer, tables, timer records and buffers are those of the definition
pub record BothScansDone (call : BothCall) (r : BothScanned) (lent : Lent) : Type 0 where
  pub answer : both_scanned_answer r ≡ call.answer
  pub same_lent : lent ≡ call.lent
