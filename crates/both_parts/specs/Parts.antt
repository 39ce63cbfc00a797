-- What the functions of this crate promise. Nothing here is a sentence of document 01. Assumes nothing.
use Rattle.std.specs.Prelude.{ℕ, ◌≡◌, List, [], ◌∷◌, ◌++◌, length, take, drop, Option, Some, None}
use Rattle.std.specs.Result.{result_unwrap_or}
use Rattle.questions.specs.Questions.{Answer, first_no, question12, most_instruction_watchdog}
use Rattle.table.specs.TimerRecords.{number_timers}
use Rattle.table.specs.Halt.{Halt}
use Rattle.table.specs.declared.Halt.{Halt as HaltCase}
use Rattle.table.specs.declared.Halt.TheVariants.{Stopped as StoppedCase}
use Rattle.ladder_definitions.specs.Kept.{Kept}
use Rattle.ladder_definitions.specs.LadderScan.{scan_questions, LadderScanned}
use Rattle.ladder_definitions.specs.declared.Counts.{Counts as LadderCounts}
use Rattle.list_definitions.specs.ListScan.{ListScanned}
use Rattle.list_definitions.specs.declared.Counts.{Counts as ListCounts}
use Rattle.translation_definitions.specs.BothScans.{copy_questions, instruction_watchdog}
use Rattle.both_parts.specs.declared.Memory.{Memory as MemoryStruct}

-- a slice copied to the start of a lent one, as far as that reaches
unfoldable pub copied : List ℕ → List ℕ → List ℕ
copied from lent = take (length lent) from ++ drop (length from) lent

-- what one scan was lent, or left: a table, and the numbers of timer records
pub record Memory : Type 0 where
  pub bytes : List ℕ
  pub numbers : List ℕ

abbrev pub memory : List ℕ → List ℕ → Memory
memory bytes numbers = record { bytes = bytes; numbers = numbers }

abbrev pub memory_in : MemoryStruct → Memory
memory_in m = memory m.table.now m.timers.now

abbrev pub copied_memory : List ℕ → List ℕ → Memory → Memory
copied_memory table timers m = memory (copied table m.bytes) (copied timers m.numbers)

-- the same lent slices
pub record SameMemory (before after : MemoryStruct) : Type 0 where
  pub table : after.table.ghost_name ≡ before.table.ghost_name
  pub timers : after.timers.ghost_name ≡ before.timers.ghost_name

-- how many numbers and bytes the copies are lent
pub record Lengths : Type 0 where
  pub ladder_numbers : ℕ
  pub list_numbers : ℕ
  pub ladder_bytes : ℕ
  pub list_bytes : ℕ

abbrev pub copy_lengths : ℕ → ℕ → ℕ → ℕ → Lengths
copy_lengths ladder_numbers list_numbers ladder_bytes list_bytes =
    record { ladder_numbers = ladder_numbers; list_numbers = list_numbers; ladder_bytes = ladder_bytes; list_bytes = list_bytes }

abbrev pub lengths_of : Memory → Memory → Lengths
lengths_of ladder list = copy_lengths (length ladder.numbers) (length list.numbers) (length ladder.bytes) (length list.bytes)

-- the questions before 13, over the lengths of the copies
unfoldable pub both_asked : ℕ → Kept → List ℕ → List ℕ → Lengths → ℕ → ℕ → Answer
both_asked vars k table timers m n w =
    first_no (scan_questions vars k table (number_timers timers) n
    ∷ copy_questions table timers m.ladder_numbers m.list_numbers m.ladder_bytes m.list_bytes
    ++ question12 most_instruction_watchdog w
    ∷ [])

-- the watchdog that question 12 is put to: a given one, or 0, which is in range as demand 3's own always is
unfoldable pub asked_watchdog : Option ℕ → ℕ
asked_watchdog (Some w) = w
asked_watchdog None = 0

-- the list scan's watchdog, from how the ladder scan halted, its rungs entered, L and n
unfoldable pub watchdog_by : Option ℕ → Halt → ℕ → ℕ → ℕ → ℕ
watchdog_by (Some w) halt k longest n = w
watchdog_by None halt k longest n = instruction_watchdog halt k longest n

-- how a scan halted; a refusal counts as one that stopped at once, but no question is left that could refuse
abbrev pub ladder_end : LadderScanned → HaltCase LadderCounts
ladder_end answer = result_unwrap_or answer (StoppedCase (record { rungs = 0; moved = 0 }))

abbrev pub list_end : ListScanned → HaltCase ListCounts
list_end answer = result_unwrap_or answer (StoppedCase (record { instructions = 0; rungs = 0; moved = 0 }))
