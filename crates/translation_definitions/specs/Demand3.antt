-- Demand 3's two halves, and what document 02 adds to them, once for trees, calls, code and many scans. The ladder scan entered k rungs and left the state s;
-- of the list scan they tell its answer and the state t that it left. A rung of the list takes `least` instructions or more: 2 where Translate wrote it;
-- `longest` is L. Assumes nothing.
use Rattle.std.specs.Prelude.{ℕ, ◌*◌, ◌≤◌, ◌≡◌}
use Rattle.questions.specs.Questions.{yes, question12, most_instruction_watchdog}
use Rattle.table.specs.State.{State, SameButScratch}
use Rattle.table.specs.Halt.{Ended, Stopped}
use Rattle.ladder_definitions.specs.LadderScan.{LadderCounts, LadderScanAnswer, scanned as ladder_scanned}
use Rattle.list_definitions.specs.ListScan.{ListCounts, ListScanAnswer, scanned as list_scanned}

-- "the list scan answers Ended too": "Then the V variables are equal in the two copies, byte for byte, the list scan's rungs entered are the same k, and its
-- instructions carried out are at least 2 × k and at most k × L". 02, Req 06: they "must also end with equal records", which SameButScratch says too.
pub record EndedAlike (least longest k : ℕ) (s : State) (list : ListScanAnswer) (t : State) : Type 0 where
  pub counts : ListCounts
  pub ended : list ≡ list_scanned Ended counts
  pub same : SameButScratch s t
  pub rungs : counts.rungs ≡ k
  pub at_least : least * k ≤ counts.instructions
  pub at_most : counts.instructions ≤ k * longest

-- 02, Req 02: "When a ladder scan ends, its list, scanned as in demand 3, reports the same sum.": the list scan ended, and its sum is this one. It stands beside
-- the ended half and is no part of it: a list of another make may have that half alone.
pub record SameSum (moved : ℕ) (list : ListScanAnswer) : Type 0 where
  pub counts : ListCounts
  pub ended : list ≡ list_scanned Ended counts
  pub same : counts.moved ≡ moved

-- "the list scan answers Stopped"
pub record StoppedAlike (list : ListScanAnswer) : Type 0 where
  pub counts : ListCounts
  pub stopped : list ≡ list_scanned Stopped counts

-- Both halves, over the answers of a ladder scan under the rung watchdog n and of a list scan under the instruction watchdog w.
pub record ScansAlike (least longest n w : ℕ) (ladder : LadderScanAnswer) (s : State) (list : ListScanAnswer) (t : State) : Type 0 where
  -- "If the ladder scan answers Ended with k rungs entered": "under whichever legal instruction watchdog of k × L or more"
  pub ended : (c : LadderCounts) → ladder ≡ ladder_scanned Ended c → question12 most_instruction_watchdog w ≡ yes → c.rungs * longest ≤ w
      → EndedAlike least longest c.rungs s list t
  -- "If the ladder scan answers Stopped at n rungs, the list scan answers Stopped under whichever instruction watchdog of 2 × n or fewer."
  pub stopped : (c : LadderCounts) → ladder ≡ ladder_scanned Stopped c → w ≤ least * n → StoppedAlike list

-- Req 02's sentence, over the same answers and under the same watchdogs as the ended half.
pub record SumsAlike (longest w : ℕ) (ladder : LadderScanAnswer) (list : ListScanAnswer) : Type 0 where
  pub ended : (c : LadderCounts) → ladder ≡ ladder_scanned Ended c → question12 most_instruction_watchdog w ≡ yes → c.rungs * longest ≤ w → SameSum c.moved list
