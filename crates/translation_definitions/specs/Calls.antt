-- Demand 3 over the definitions of the calls Translate, Ladder scan and List scan. Its hypotheses are Given, its conclusions CallsAgree, a field to a sentence;
-- Theorems states that the first give the second. Assumes nothing.
use Rattle.std.specs.Prelude.{ℕ, ◌*◌, ◌≤◌, ◌≡◌, List, length}
use Rattle.questions.specs.Questions.{Refusal, yes, question12, question13, most_rung_watchdog, most_instruction_watchdog}
use Rattle.table.specs.Timer.{Timer}
use Rattle.table.specs.State.{state_of}
use Rattle.table.specs.Halt.{Halt, Ended, Stopped}
use Rattle.table.specs.Questions.{question11, question16}
use Rattle.rungs.specs.Records.{RungRecord}
use Rattle.rungs.specs.Buffers.{Buffers, needs, written_words, written_records}
use Rattle.ladder_definitions.specs.Kept.{Kept}
use Rattle.ladder_definitions.specs.Questions.{ladder_of, question17, ladder_answer}
use Rattle.ladder_definitions.specs.Entries.{times_entered}
use Rattle.ladder_definitions.specs.LadderScan.{LadderCounts, call_ladder_scan, scanned as ladder_scanned, refused as ladder_refused}
use Rattle.list_definitions.specs.Questions.{list_answer}
use Rattle.list_definitions.specs.ListScan.{call_list_scan, refused as list_refused}
use Rattle.translation_definitions.specs.Translate.{translate}
use Rattle.translation_definitions.specs.TranslateKept.{Counts, translate_kept, list_buffers, translated}
use Rattle.translation_definitions.specs.Demand3.{ScansAlike, SumsAlike}

-- "for every accepted ladder of V variables that is translated, every legal table and every rung watchdog n from 0 to 65,535"; Translate has room enough. 02,
-- Req 06: timer records that 16 and 17 take
pub record Given (vars : ℕ) (kept : Kept) (lent : Buffers) (table : List ℕ) (timers : List Timer) (n : ℕ) : Type 0 where
  pub accepted : ladder_answer vars kept ≡ yes
  pub room : question13 (needs (list_buffers (translate vars (ladder_of kept))) lent) ≡ yes
  pub legal : question11 vars table ≡ yes
  pub timers_legal : question16 vars timers ≡ yes
  pub timers_known : question17 (length timers) (ladder_of kept) ≡ yes
  pub watchdog : question12 most_rung_watchdog n ≡ yes

-- The two scans of a kept ladder and a list, "each" begun "on a copy of that table", under every instruction watchdog w. 02, Req 06: "begun with equal records and
-- one `now`".
unfoldable pub CallsAlike : ℕ → ℕ → ℕ → Kept → List ℕ → List RungRecord → List ℕ → List Timer → ℕ → ℕ → Type 0
CallsAlike least longest vars kept words records table timers now n = (w : ℕ) →
    let ladder = call_ladder_scan vars kept table timers now n in
    let list = call_list_scan vars words records table timers now w in
    ScansAlike least longest n w ladder.answer (state_of vars ladder.table ladder.timers now) list.answer
    (state_of vars list.table list.timers now)

-- The sums of these two scans.
unfoldable pub CallsSums : ℕ → ℕ → Kept → List ℕ → List RungRecord → List ℕ → List Timer → ℕ → ℕ → Type 0
CallsSums longest vars kept words records table timers now n = (w : ℕ) →
    SumsAlike longest w (call_ladder_scan vars kept table timers now n).answer (call_list_scan vars words records table timers now w).answer

-- 02, Req 04, beyond the request: the times entered after these two scans, whatever the fields held before, where the ladder scan ended and w is legal and
-- k × L or more.
unfoldable pub CallsTimes : ℕ → ℕ → Kept → List ℕ → List RungRecord → List ℕ → List Timer → ℕ → ℕ → Type 0
CallsTimes longest vars kept words records table timers now n =
    (w : ℕ) (c : LadderCounts) → (call_ladder_scan vars kept table timers now n).answer ≡ ladder_scanned Ended c → question12 most_instruction_watchdog w ≡ yes → c.rungs * longest ≤ w
    → (before : List ℕ) → (call_list_scan vars words records table timers now w).times before ≡ times_entered (ladder_of kept) n (state_of vars table timers now)

pub record ScansAgree (vars : ℕ) (kept : Kept) (words : List ℕ) (records : List RungRecord) (longest : ℕ) (table : List ℕ) (timers : List Timer) (now n : ℕ) : Type 0 where
  -- the list is one that List scan and Listing take
  pub list_accepted : list_answer vars words records ≡ yes
  -- the ladder scan is not refused: it halts with its counts
  pub halt : Halt
  pub counts : LadderCounts
  pub scanned : (call_ladder_scan vars kept table timers now n).answer ≡ ladder_scanned halt counts
  -- k × L is a legal instruction watchdog, and so is 2 × n
  pub ended_watchdog : question12 most_instruction_watchdog (counts.rungs * longest) ≡ yes
  pub stopped_watchdog : question12 most_instruction_watchdog (2 * n) ≡ yes
  -- "Stopped at n rungs"
  pub stopped_at : halt ≡ Stopped → counts.rungs ≡ n
  pub alike : CallsAlike 2 longest vars kept words records table timers now n
  -- 02, Req 02: "reports the same sum"
  pub sums : CallsSums longest vars kept words records table timers now n
  -- Req 04: each rung's field is how often the ladder scan entered it
  pub times : CallsTimes longest vars kept words records table timers now n

pub record CallsAgree (vars : ℕ) (kept : Kept) (lent : Buffers) (table : List ℕ) (timers : List Timer) (now n : ℕ) : Type 0 where
  pub counts : Counts
  pub translated : (translate_kept vars kept lent).answer ≡ translated counts
  -- "In demand 3 a ladder's list is what Translate writes for it, records included."
  pub scans : ScansAgree vars kept (written_words (translate_kept vars kept lent).buffers counts.instructions)
      (written_records (translate_kept vars kept lent).buffers counts.rungs) counts.longest table timers now n

-- 02, Req 06: where 16 or 17 says "no", both scans refuse alike, under any watchdogs, and leave the records that they got.
pub record TimersRefused (vars : ℕ) (kept : Kept) (words : List ℕ) (records : List RungRecord) (table : List ℕ) (timers : List Timer) (now n w : ℕ) (refusal : Refusal) : Type 0 where
  pub ladder : (call_ladder_scan vars kept table timers now n).answer ≡ ladder_refused refusal
  pub list : (call_list_scan vars words records table timers now w).answer ≡ list_refused refusal
  pub ladder_timers : (call_ladder_scan vars kept table timers now n).timers ≡ timers
  pub list_timers : (call_list_scan vars words records table timers now w).timers ≡ timers
