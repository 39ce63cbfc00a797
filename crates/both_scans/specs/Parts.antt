-- What the functions of this crate promise besides. Nothing here is a sentence of document 01. Assumes nothing.
use Rattle.std.specs.Prelude.{ℕ, ◌≡◌, List, Option, Some, None}
use Rattle.table.specs.TimerRecords.{number_timers}
use Rattle.table.specs.Halt.{halt_of, halt_counts}
use Rattle.rungs.specs.Records.{RungRecord}
use Rattle.rungs.specs.Buffers.{Buffers}
use Rattle.ladder_definitions.specs.Kept.{Kept}
use Rattle.ladder_definitions.specs.LadderScan.{LadderScanned, call_ladder_scan, LadderScanNumbers}
use Rattle.list_definitions.specs.ListScan.{ListScanned, call_list_scan, ListScanNumbers}
use Rattle.translation_definitions.specs.BothScans.{Lent, lends, paired_watchdog}
use Rattle.translation_definitions.specs.declared.Counts.{Counts as CountsStruct}
use Rattle.translation_definitions.specs.declared.BothEnds.{BothEnds as EndsStruct}
use Rattle.both_parts.specs.Parts.{Memory, watchdog_by, ladder_end, list_end}
use Rattle.both_parts.specs.declared.Memory.{Memory as MemoryStruct}

-- what both scans are lent: a copy each, and the buffers for the list
abbrev pub lent_to : MemoryStruct → MemoryStruct → Buffers → Lent
lent_to ladder list b = lends ladder.table.now list.table.now ladder.timers.now list.timers.now b

-- the list scan's watchdog, from the ladder, its table and timer records, and the tick
unfoldable pub chosen_watchdog : Option ℕ → ℕ → Kept → List ℕ → List ℕ → ℕ → ℕ → ℕ
chosen_watchdog (Some w) vars k table timers now n = w
chosen_watchdog None vars k table timers now n = paired_watchdog vars k table timers now n

-- both scans were called at the tick `now`, the ladder's on the memory t, the list's on u with the times v, and `r` has how they ended
pub record ScansRun (vars : ℕ) (k : Kept) (code : List ℕ) (records : List RungRecord) (counts : CountsStruct) (now n : ℕ) (watchdog : Option ℕ) (t u : Memory)
    (r : EndsStruct) (t' u' : Memory) (v v' : List ℕ) : Type 0 where
  pub ladder : LadderScanned
  pub ladder_run : LadderScanNumbers (call_ladder_scan vars k t.bytes (number_timers t.numbers) now n) ladder t'.bytes t.numbers t'.numbers
  pub list : ListScanned
  pub list_run : ListScanNumbers
      (call_list_scan vars code records u.bytes (number_timers u.numbers) now
      (watchdog_by watchdog (halt_of (ladder_end ladder)) (halt_counts (ladder_end ladder)).rungs counts.longest n)) list u'.bytes u.numbers u'.numbers v v'
  pub ends : r ≡ record { counts = counts; ladder = ladder_end ladder; list = list_end list }
