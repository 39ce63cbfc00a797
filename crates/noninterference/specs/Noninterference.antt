-- Document 02, Req 07, "Variables that no contact reads", sentence by sentence: over trees, over the call Ladder scan and, beyond the request, over List scan of
-- the ladder's list. Theorems states that TreesGiven gives TreesUninfluenced, and CallsGiven gives CallsUninfluenced and, where the ladder scan ended,
-- ListsUninfluenced. Assumes nothing.
use Rattle.std.specs.Prelude.{ℕ, ◌<◌, ◌≡◌, Bool, List, map, T, length, get_or}
use Rattle.questions.specs.Questions.{yes, question12, most_rung_watchdog}
use Rattle.table.specs.Timer.{Timer}
use Rattle.table.specs.State.{State, state_of, value_at}
use Rattle.table.specs.Halt.{Halt, Ended}
use Rattle.table.specs.Writes.{Write}
use Rattle.table.specs.Questions.{question11, question16}
use Rattle.rungs.specs.Records.{RungRecord}
use Rattle.ladder_definitions.specs.Tree.{Ladder}
use Rattle.ladder_definitions.specs.Meaning.{scan_ladder}
use Rattle.ladder_definitions.specs.Writes.{ladder_writes}
use Rattle.ladder_definitions.specs.Kept.{Kept}
use Rattle.ladder_definitions.specs.Questions.{ladder_of, ladder_answer, question17, Accepted}
use Rattle.ladder_definitions.specs.LadderScan.{LadderCounts, call_ladder_scan, scanned}
use Rattle.list_definitions.specs.ListScan.{ListCounts, call_list_scan, scanned as list_scanned}
use Rattle.noninterference.specs.Contacts.{among, named}

-- "agree on each variable named by a contact": in its value, which is its byte where bytes are 0 and 1
abbrev pub AgreeOnContacts : Ladder → List ℕ → List ℕ → Type 0
AgreeOnContacts gs s t = (v : ℕ) → T (named v gs) → value_at s v ≡ value_at t v

-- "wrote": whether v is the variable of one of the writes that a scan made (ladder_definitions.Writes: coils, set and reset coils with power, timers)
unfoldable pub wrote_to : ℕ → List Write → Bool
wrote_to v writes = among v (map (λ w. w.index) writes)

-- Of two scans that made these writes: the first found the table s and left s', the second found t and left t'.
pub record VariablesUninfluenced (vars : ℕ) (first second : List Write) (s t s' t' : List ℕ) : Type 0 where
  -- "Afterwards the V variables differ only where they differed before."
  pub differ_only : (v : ℕ) → v < vars → value_at s v ≡ value_at t v → value_at s' v ≡ value_at t' v
  -- "A variable that a coil or timer wrote in the one scan holds the same in the other.": the same byte, whichever is the one
  pub first_wrote : (v : ℕ) → v < vars → T (wrote_to v first) → get_or s' v 0 ≡ get_or t' v 0
  pub second_wrote : (v : ℕ) → v < vars → T (wrote_to v second) → get_or s' v 0 ≡ get_or t' v 0

-- "For every accepted ladder, take two legal tables that agree on each variable named by a contact, with the same timers, tick and watchdog.": over trees, where
-- a state has table, timer records and tick. The records are such that 16 and 17 take them.
pub record TreesGiven (gs : Ladder) (s t : State) : Type 0 where
  pub accepted : Accepted s.vars gs
  pub same_vars : s.vars ≡ t.vars
  pub first_legal : question11 s.vars s.bytes ≡ yes
  pub second_legal : question11 t.vars t.bytes ≡ yes
  pub agree : AgreeOnContacts gs s.bytes t.bytes
  pub same_timers : s.timers ≡ t.timers
  pub timers_legal : question16 s.vars s.timers ≡ yes
  pub timers_known : question17 (length s.timers) gs ≡ yes
  pub same_now : s.now ≡ t.now

pub record TreesUninfluenced (gs : Ladder) (watchdog : ℕ) (s t : State) : Type 0 where
  -- "The two ladder scans answer alike in Ended or Stopped and in rungs entered."
  pub halt : (scan_ladder gs watchdog s).halt ≡ (scan_ladder gs watchdog t).halt
  pub rungs : (scan_ladder gs watchdog s).rungs ≡ (scan_ladder gs watchdog t).rungs
  pub variables : VariablesUninfluenced s.vars (ladder_writes gs watchdog s) (ladder_writes gs watchdog t) s.bytes t.bytes
      (scan_ladder gs watchdog s).state.bytes (scan_ladder gs watchdog t).state.bytes
  -- beyond the request: the timer records end equal
  pub same_timers : (scan_ladder gs watchdog s).state.timers ≡ (scan_ladder gs watchdog t).state.timers

-- The same over the call: two lent tables s and t.
pub record CallsGiven (vars : ℕ) (kept : Kept) (s t : List ℕ) (timers : List Timer) (watchdog : ℕ) : Type 0 where
  pub accepted : ladder_answer vars kept ≡ yes
  pub first_legal : question11 vars s ≡ yes
  pub second_legal : question11 vars t ≡ yes
  pub agree : AgreeOnContacts (ladder_of kept) s t
  pub timers_legal : question16 vars timers ≡ yes
  pub timers_known : question17 (length timers) (ladder_of kept) ≡ yes
  pub watchdog_legal : question12 most_rung_watchdog watchdog ≡ yes

-- the writes of the ladder scan that the call makes
abbrev pub call_writes : ℕ → Kept → List ℕ → List Timer → ℕ → ℕ → List Write
call_writes vars kept table timers now watchdog = ladder_writes (ladder_of kept) watchdog (state_of vars table timers now)

pub record CallsUninfluenced (vars : ℕ) (kept : Kept) (s t : List ℕ) (timers : List Timer) (now watchdog : ℕ) : Type 0 where
  -- "The two ladder scans answer alike in Ended or Stopped and in rungs entered."; the sums of what they turned over may differ
  pub halt : Halt
  pub first_counts : LadderCounts
  pub second_counts : LadderCounts
  pub first_answer : (call_ladder_scan vars kept s timers now watchdog).answer ≡ scanned halt first_counts
  pub second_answer : (call_ladder_scan vars kept t timers now watchdog).answer ≡ scanned halt second_counts
  pub rungs : first_counts.rungs ≡ second_counts.rungs
  pub variables : VariablesUninfluenced vars (call_writes vars kept s timers now watchdog) (call_writes vars kept t timers now watchdog) s t
      (call_ladder_scan vars kept s timers now watchdog).table (call_ladder_scan vars kept t timers now watchdog).table
  -- beyond the request
  pub same_timers : (call_ladder_scan vars kept s timers now watchdog).timers ≡ (call_ladder_scan vars kept t timers now watchdog).timers

-- For the box, beyond the request: List scan of the ladder's list, which stands in words and records, on the same two tables under the instruction watchdog w.
-- Where the ladder scan ended, both end with the same rungs entered; "wrote" is the ladder scan's.
pub record ListsUninfluenced (vars : ℕ) (kept : Kept) (words : List ℕ) (records : List RungRecord) (s t : List ℕ) (timers : List Timer) (now watchdog w : ℕ) : Type 0 where
  pub first_counts : ListCounts
  pub second_counts : ListCounts
  pub first_ended : (call_list_scan vars words records s timers now w).answer ≡ list_scanned Ended first_counts
  pub second_ended : (call_list_scan vars words records t timers now w).answer ≡ list_scanned Ended second_counts
  pub rungs : first_counts.rungs ≡ second_counts.rungs
  pub variables : VariablesUninfluenced vars (call_writes vars kept s timers now watchdog) (call_writes vars kept t timers now watchdog) s t
      (call_list_scan vars words records s timers now w).table (call_list_scan vars words records t timers now w).table
  pub same_timers : (call_list_scan vars words records s timers now w).timers ≡ (call_list_scan vars words records t timers now w).timers
