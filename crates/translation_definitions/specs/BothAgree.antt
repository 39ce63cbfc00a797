-- Demand 3 over the code: what the answer of both_scans and of paired_scans and the bytes that they leave tell. The hypotheses are BothGiven; the conclusions,
-- a field to a clause, are BothAgree for both_scans and PairedAgree for paired_scans, whose second promises they are. Theorems states that the definitions
-- have them. Assumes nothing.
use Rattle.std.specs.Prelude.{ℕ, ◌*◌, ◌≤◌, ◌≡◌, List, length, take}
use Rattle.questions.specs.Questions.{yes, question12, most_instruction_watchdog}
use Rattle.table.specs.State.{State, state_of}
use Rattle.table.specs.TimerRecords.{timers_in, number_timers}
use Rattle.table.specs.Halt.{Ended, Stopped}
use Rattle.rungs.specs.Records.{sum}
use Rattle.rungs.specs.Buffers.{Buffers, columns_of}
use Rattle.ladder_definitions.specs.Kept.{Kept}
use Rattle.ladder_definitions.specs.Questions.{ladder_of}
use Rattle.ladder_definitions.specs.Entries.{times_entered}
use Rattle.ladder_definitions.specs.LadderScan.{scanned as ladder_scanned}
use Rattle.list_definitions.specs.ListScan.{scanned as list_scanned}
use Rattle.translation_definitions.specs.TranslateKept.{translate_kept, translated}
use Rattle.translation_definitions.specs.Demand3.{EndedAlike, SameSum, StoppedAlike, ScansAlike, SumsAlike}
use Rattle.translation_definitions.specs.Calls.{Given}
use Rattle.translation_definitions.specs.BothScans.{Lent, BothEnds, BothAnswer, both, begun}

-- an accepted ladder, a legal table, timer records that 16 and 17 take, a rung watchdog n, room for the list; and two lent tables of the table's length, and
-- two lent rows of timer records of those records' length
pub record BothGiven (vars : ℕ) (kept : Kept) (table timers : List ℕ) (lent : Lent) (n : ℕ) : Type 0 where
  pub given : Given vars kept lent.buffers table (number_timers timers) n
  pub ladder_copy : length lent.ladder_table ≡ length table
  pub list_copy : length lent.list_table ≡ length table
  pub ladder_timers_copy : length lent.ladder_timers ≡ length timers
  pub list_timers_copy : length lent.list_timers ≡ length timers

-- No scan was refused, and the list is Translate's.
pub record BothRan (vars : ℕ) (kept : Kept) (lent : Buffers) (n : ℕ) (answer : BothAnswer) (after : Lent) : Type 0 where
  pub ends : BothEnds
  pub answered : answer ≡ both ends
  -- "In demand 3 a ladder's list is what Translate writes for it, records included.", with its counts: words, labels, offsets and lengths
  pub translated : (translate_kept vars kept lent).answer ≡ translated ends.counts
  pub same_list : columns_of after.buffers ≡ columns_of (translate_kept vars kept lent).buffers
  -- 02, Req 04: "The fields add up to the rungs entered"
  pub times_add_up : sum (take ends.counts.rungs after.buffers.times) ≡ ends.list.rungs
  -- "Stopped at n rungs"
  pub stopped_at : ends.ladder_halt ≡ Stopped → ends.ladder.rungs ≡ n

-- 02, Req 04, beyond the request: each rung's field is how often the ladder scan, begun on the table, entered it.
abbrev pub TimesOfLadder : ℕ → Kept → List ℕ → List ℕ → ℕ → ℕ → ℕ → Lent → Type 0
TimesOfLadder vars kept table timers now n rungs after = take rungs after.buffers.times ≡ times_entered (ladder_of kept) n (begun vars table timers now)

-- the states that a table and numbers of timer records stand for
abbrev pub ladder_left : ℕ → ℕ → Lent → State
ladder_left vars now after = state_of vars after.ladder_table (timers_in after.ladder_timers) now

abbrev pub list_left : ℕ → ℕ → Lent → State
list_left vars now after = state_of vars after.list_table (timers_in after.list_timers) now

-- Demand 3 under any legal instruction watchdog w: its two halves.
pub record BothAgree (vars : ℕ) (kept : Kept) (table timers : List ℕ) (now : ℕ) (lent : Buffers) (n w : ℕ) (answer : BothAnswer) (after : Lent) : Type 0 where
  pub ran : BothRan vars kept lent n answer after
  pub alike : ScansAlike 2 ran.ends.counts.longest n w (ladder_scanned ran.ends.ladder_halt ran.ends.ladder) (ladder_left vars now after)
      (list_scanned ran.ends.list_halt ran.ends.list) (list_left vars now after)
  -- 02, Req 02: "reports the same sum"
  pub sums : SumsAlike ran.ends.counts.longest w (ladder_scanned ran.ends.ladder_halt ran.ends.ladder) (list_scanned ran.ends.list_halt ran.ends.list)
  pub times : ran.ends.ladder_halt ≡ Ended → ran.ends.ladder.rungs * ran.ends.counts.longest ≤ w → TimesOfLadder vars kept table timers now n ran.ends.counts.rungs after

-- Demand 3 under its own instruction watchdog, k × L or 2 × n: the two scans end alike, or both are stopped.
pub record PairedAgree (vars : ℕ) (kept : Kept) (table timers : List ℕ) (now : ℕ) (lent : Buffers) (n : ℕ) (answer : BothAnswer) (after : Lent) : Type 0 where
  pub ran : BothRan vars kept lent n answer after
  pub ended : ran.ends.ladder_halt ≡ Ended → EndedAlike 2 ran.ends.counts.longest ran.ends.ladder.rungs (ladder_left vars now after)
      (list_scanned ran.ends.list_halt ran.ends.list) (list_left vars now after)
  -- 02, Req 02: "reports the same sum"
  pub same_sum : ran.ends.ladder_halt ≡ Ended → SameSum ran.ends.ladder.moved (list_scanned ran.ends.list_halt ran.ends.list)
  pub times : ran.ends.ladder_halt ≡ Ended → TimesOfLadder vars kept table timers now n ran.ends.counts.rungs after
  pub stopped : ran.ends.ladder_halt ≡ Stopped → StoppedAlike (list_scanned ran.ends.list_halt ran.ends.list)

-- what both_scans promises besides: where the hypotheses hold and w is legal, demand 3
abbrev pub BothPromise : ℕ → Kept → List ℕ → List ℕ → ℕ → Lent → ℕ → ℕ → BothAnswer → Lent → Type 0
BothPromise vars kept table timers now lent n w answer after =
    BothGiven vars kept table timers lent n → question12 most_instruction_watchdog w ≡ yes → BothAgree vars kept table timers now lent.buffers n w answer after

-- what paired_scans promises besides
abbrev pub PairedPromise : ℕ → Kept → List ℕ → List ℕ → ℕ → Lent → ℕ → BothAnswer → Lent → Type 0
PairedPromise vars kept table timers now lent n answer after =
    BothGiven vars kept table timers lent n → PairedAgree vars kept table timers now lent.buffers n answer after
