-- What functions over timer records in one slice of numbers promise their callers. Assumes nothing.
use Rattle.std.specs.Prelude.{◌≡◌, ℕ, ◌+◌, ◌*◌, ◌≤◌, Bool, true, not, ◌&&◌, T, List, map, length, take, ◌==◌, nat_le, nat_lt, slice_index}
use Rattle.questions.specs.Tests.{all}
use Rattle.table.specs.Timer.{Timer}
use Rattle.table.specs.Questions.{most_timers}
use Rattle.table.specs.TimerRecords.{Columns, columns, one_length, column_timers, timer_numbers, timers_in}
use Rattle.timers.specs.declared.Timer.{Timer as TimerStruct}
use Rattle.timers.specs.declared.Columns.{Columns as ColumnsStruct}

-- the record whose numbers begin at a place
abbrev pub timer_at : List ℕ → ℕ → Timer
timer_at ns at = record { preset = slice_index ns at; start = slice_index ns (at + 1); variable = slice_index ns (at + 2); running = slice_index ns (at + 3); done = slice_index ns (at + 4) }

-- the record that a struct holds
abbrev pub timer_of : TimerStruct → Timer
timer_of t = record { preset = t.preset; start = t.start; variable = t.variable; running = t.running; done = t.done }

-- ---- question 16

-- a record of another variable
abbrev pub other_variable : ℕ → Timer → Bool
other_variable v t = not (t.variable == v)

-- ---- five slices

-- slices of these lengths are of one length and hold at most 32 records
abbrev pub can_pack : ℕ → ℕ → ℕ → ℕ → ℕ → Bool
can_pack preset start variable running done = (start == preset && (variable == preset && (running == preset && done == preset))) && nat_le preset most_timers

-- the same of the slices of records
abbrev pub packs : Columns → Bool
packs c = can_pack (length c.preset) (length c.start) (length c.variable) (length c.running) (length c.done)

-- the slices that are lent
abbrev pub columns_in : ColumnsStruct → Columns
columns_in c = columns c.preset.now c.start.now c.variable.now c.running.now c.done.now

-- both flags of a record fit a byte
abbrev pub flag_bytes : Timer → Bool
flag_bytes t = nat_lt t.running 256 && nat_lt t.done 256

-- slices that can be packed, and a buffer with room for their numbers
pub record Packable (c : Columns) (out : List ℕ) : Type 0 where
  pub one : one_length c ≡ true
  pub few : length c.preset ≤ most_timers
  pub room : 5 * length c.preset ≤ length out

-- their records' numbers, r of them, from a buffer's start
pub record Packed (c : Columns) (r : ℕ) (after : List ℕ) : Type 0 where
  pub count : r ≡ 5 * length c.preset
  pub numbers : take r after ≡ timer_numbers (column_timers c)
  pub flags : T (all flag_bytes (column_timers c))

-- numbers of as many records as the slices have entries
pub record Unpackable (ns start running done : List ℕ) : Type 0 where
  pub count : length ns ≡ 5 * length start
  pub runnings : length running ≡ length start
  pub dones : length done ≡ length start
  pub flags : T (all flag_bytes (timers_in ns))

pub record Unpacked (ns start running done : List ℕ) : Type 0 where
  pub starts : start ≡ map (λ t. t.start) (timers_in ns)
  pub runnings : running ≡ map (λ t. t.running) (timers_in ns)
  pub dones : done ≡ map (λ t. t.done) (timers_in ns)

-- the same slices are lent: presets and variables as they were, and the places of the others, whatever stands there
pub record SameSlices (before after : ColumnsStruct) : Type 0 where
  pub preset : after.preset ≡ before.preset
  pub variable : after.variable ≡ before.variable
  pub start : after.start.ghost_name ≡ before.start.ghost_name
  pub running : after.running.ghost_name ≡ before.running.ghost_name
  pub done : after.done.ghost_name ≡ before.done.ghost_name
