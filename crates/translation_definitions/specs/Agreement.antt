-- Demand 3 over trees: a ladder and its list end the scan alike. Assumes nothing.
use Rattle.std.specs.Prelude.{ℕ, ◌*◌, ◌≤◌, ◌≡◌}
use Rattle.table.specs.State.{State}
use Rattle.table.specs.Halt.{Ended, Stopped}
use Rattle.rungs.specs.Records.{longest}
use Rattle.ladder_definitions.specs.Tree.{Ladder}
use Rattle.ladder_definitions.specs.Meaning.{scan_ladder}
use Rattle.ladder_definitions.specs.Entries.{times_entered}
use Rattle.list_definitions.specs.Machine.{InstructionList, scan_list}
use Rattle.list_definitions.specs.ListScan.{scan_ends}
use Rattle.translation_definitions.specs.Demand3.{EndedAlike, StoppedAlike, SameSum}

-- From the state s under the rung watchdog n and any instruction watchdog w, where each rung of the list takes `least` instructions or more.
pub record Agreement (least : ℕ) (gs : Ladder) (l : InstructionList) (s : State) (n : ℕ) : Type 0 where
  pub ended : (w : ℕ) → (scan_ladder gs n s).halt ≡ Ended → (scan_ladder gs n s).rungs * longest l.records ≤ w
      → EndedAlike least (longest l.records) (scan_ladder gs n s).rungs (scan_ladder gs n s).state (scan_ends (scan_list l w s)).answer (scan_list l w s).state
  pub stopped : (w : ℕ) → (scan_ladder gs n s).halt ≡ Stopped → w ≤ least * n → StoppedAlike (scan_ends (scan_list l w s)).answer

-- 02, Req 02, from the same state and under the same watchdogs: the sums are compared where the ladder scan ended; where it stopped, each scan reports its own.
pub record SumsAgree (gs : Ladder) (l : InstructionList) (s : State) (n : ℕ) : Type 0 where
  pub ended : (w : ℕ) → (scan_ladder gs n s).halt ≡ Ended → (scan_ladder gs n s).rungs * longest l.records ≤ w
      → SameSum (scan_ladder gs n s).state.moved (scan_ends (scan_list l w s)).answer

-- 02, Req 04, beyond the request, from the same state and under the same watchdogs: where the ladder scan ended, the field of each rung's record is how often
-- the ladder scan entered that rung.
pub record TimesAgree (gs : Ladder) (l : InstructionList) (s : State) (n : ℕ) : Type 0 where
  pub ended : (w : ℕ) → (scan_ladder gs n s).halt ≡ Ended → (scan_ladder gs n s).rungs * longest l.records ≤ w → (scan_list l w s).counts.times ≡ times_entered gs n s
