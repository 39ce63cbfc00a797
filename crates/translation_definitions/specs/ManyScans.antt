-- Any number of scans, with an input phase before each. Document 01 speaks of one scan and leaves the input phase out ("Without: .. input and output phases of
-- the scan"): this is beyond demand 3. The ladder works on one table, its list on another; before each scan the same variables of both tables are overwritten
-- with the same values. 02, Req 06: each scan has its tick, and the timer records are handed on from scan to scan. The hypotheses are ManyGiven, the conclusions ManyAgree; Theorems states that the first give the second. Assumes nothing.
use Rattle.std.specs.Prelude.{ℕ, ◌*◌, ◌≤◌, ◌≡◌, Bool, List, [], ◌∷◌, map, length, take}
use Rattle.questions.specs.Questions.{yes, question12, most_instruction_watchdog}
use Rattle.table.specs.Timer.{Timer}
use Rattle.table.specs.State.{state_of, written_at}
use Rattle.table.specs.Halt.{Ended}
use Rattle.table.specs.Questions.{question11, question16}
use Rattle.rungs.specs.Records.{longest}
use Rattle.ladder_definitions.specs.Kept.{Kept}
use Rattle.ladder_definitions.specs.Questions.{ladder_of, question17, ladder_answer}
use Rattle.ladder_definitions.specs.LadderScan.{LadderCounts, LadderScanCall, call_ladder_scan, scanned as ladder_scanned}
use Rattle.list_definitions.specs.Instruction.{instr_word}
use Rattle.list_definitions.specs.Machine.{InstructionList}
use Rattle.list_definitions.specs.ListScan.{ListScanCall, call_list_scan}
use Rattle.translation_definitions.specs.Translate.{translate}
use Rattle.translation_definitions.specs.Demand3.{EndedAlike, SameSum}

-- a variable, and the value, 0 or 1, that the input phase gives it; that it is below V need not be asked
pub record InputValue : Type 0 where
  pub variable : ℕ
  pub value : Bool

-- the table after the input phase: the values written, first to last
unfoldable pub input_phase : List InputValue → List ℕ → List ℕ
input_phase [] table = table
input_phase (x ∷ later) table = input_phase later (written_at table x.variable x.value)

-- one scan: the input phase before it, its tick, the rung watchdog n of the ladder scan, the instruction watchdog w of the list scan
pub record Scan : Type 0 where
  pub inputs : List InputValue
  pub tick : ℕ
  pub rung_watchdog : ℕ
  pub instruction_watchdog : ℕ

module _ (vars : ℕ) (kept : Kept) where
  -- the ladder's list, and L
  abbrev pub list_for : InstructionList
  list_for = translate vars (ladder_of kept)

  abbrev pub longest_for : ℕ
  longest_for = longest list_for.records

  -- the input phase and the ladder scan, on the ladder's table and timer records
  unfoldable pub ladder_with : Scan → List ℕ → List Timer → LadderScanCall
  ladder_with scan table timers = call_ladder_scan vars kept (input_phase scan.inputs table) timers scan.tick scan.rung_watchdog

  -- the input phase and the list scan, on the list's table and timer records
  unfoldable pub list_with : Scan → List ℕ → List Timer → ListScanCall
  list_with scan table timers =
      call_list_scan vars (map instr_word list_for.code) list_for.records (input_phase scan.inputs table) timers scan.tick scan.instruction_watchdog

  -- The ladder scan answers Ended with k rungs entered, and w is a legal instruction watchdog of k × L or more.
  pub record LadderEnds (scan : Scan) (ladder : LadderScanCall) : Type 0 where
    pub counts : LadderCounts
    pub ended : ladder.answer ≡ ladder_scanned Ended counts
    pub watchdog : question12 most_instruction_watchdog scan.instruction_watchdog ≡ yes
    pub enough : counts.rungs * longest_for ≤ scan.instruction_watchdog

  -- Every ladder scan does so, from the table t and the timer records ts on; each begins on those that the one before it left.
  unfoldable pub LaddersEnd : List Scan → List ℕ → List Timer → Type 0
  LaddersEnd [] t ts = Unit {0}
  LaddersEnd (scan ∷ later) t ts = let ladder = ladder_with scan t ts in LadderEnds scan ladder × LaddersEnd later ladder.table ladder.timers

  -- an accepted ladder; two legal tables, t for the ladder and u for its list, with the same V variables, while scratch may differ; equal timer records that 16
  -- and 17 take; and ladder scans that end
  pub record ManyGiven (scans : List Scan) (t u : List ℕ) (timers : List Timer) : Type 0 where
    pub accepted : ladder_answer vars kept ≡ yes
    pub ladder_legal : question11 vars t ≡ yes
    pub list_legal : question11 vars u ≡ yes
    pub same : take vars t ≡ take vars u
    pub timers_legal : question16 vars timers ≡ yes
    pub timers_known : question17 (length timers) (ladder_of kept) ≡ yes
    pub ladders_end : LaddersEnd scans t timers

  -- The ladder scan answers Ended with k rungs entered, and the list scan ends alike: demand 3's ended half.
  pub record BothEnd (now : ℕ) (ladder : LadderScanCall) (list : ListScanCall) : Type 0 where
    pub counts : LadderCounts
    pub ladder_ended : ladder.answer ≡ ladder_scanned Ended counts
    pub list_ended : EndedAlike 2 longest_for counts.rungs (state_of vars ladder.table ladder.timers now) list.answer (state_of vars list.table list.timers now)
    -- 02, Req 02: "reports the same sum"
    pub same_sum : SameSum counts.moved list.answer

  -- Both scans do so every time, from the tables t and u and the timer records ts and us on.
  unfoldable pub ManyAgree : List Scan → List ℕ → List Timer → List ℕ → List Timer → Type 0
  ManyAgree [] t ts u us = Unit {0}
  ManyAgree (scan ∷ later) t ts u us =
      let ladder = ladder_with scan t ts in
      let list = list_with scan u us in
      BothEnd scan.tick ladder list × ManyAgree later ladder.table ladder.timers list.table list.timers
