-- What the functions of this crate promise to each other. Nothing here is a sentence of document 01. Assumes nothing.
use Rattle.std.specs.Prelude.{Ok, ℕ, suc, ◌+◌, ◌≤◌, ◌≡◌, Bool, true, false, not, ◌&&◌, List, [], ◌∷◌, eqb, leb, ltb, length, get_or, set}
use Rattle.std.proofs.Math.Option.{some}
use Rattle.questions.specs.Tests.{bit}
use Rattle.table.specs.Timer.{Timer}
use Rattle.table.specs.State.{State}
use Rattle.table.specs.TimerRecords.{timers_in}
use Rattle.table.specs.Parts.{state_in}
use Rattle.table.specs.declared.State.{State as StateStruct}
use Rattle.rungs.specs.Records.{RungRecord, offsets, is_start, enter}
use Rattle.list_definitions.specs.Instruction.{Instr, decode_instr, decode_code}
use Rattle.list_definitions.specs.Machine.{InstructionList, Machine, step, scan_list}
use Rattle.list_definitions.specs.ListScan.{scan_ends, ListScanDone}
use Rattle.list_definitions.specs.declared.Counts.{Counts as CountsStruct}
use Rattle.list_machine.specs.declared.Machine.{Machine as MachineStruct}
use Rattle.table.specs.declared.Halt.{Halt as HaltCase}
use Rattle.table.specs.declared.Halt.TheVariants.{Ended as EndedCase, Stopped as StoppedCase}
use Rattle.list_machine.specs.declared.Place.{Place}

-- a machine with "both counts", and the times entered, which stand beside it
unfoldable pub machine_of : MachineStruct → List ℕ → Machine
machine_of m times = record { accumulator = m.accumulator; index = m.index; counts = record { instructions = m.instructions; rungs = m.rungs; times = times } }

-- a word that holds an instruction does to a machine what the instruction does; any word turns over one variable at most; the state is left over the same lent
-- table and timer records
pub record Stepped (word entered : ℕ) (m : MachineStruct) (before : StateStruct) (r : MachineStruct) (after : StateStruct) : Type 0 where
  pub same : (i : Instr) → decode_instr word ≡ some i → (rs : List RungRecord) → entered ≡ bit (is_start rs m.index) → (times : List ℕ)
      → step rs i (machine_of m times) (state_in before) ≡ (machine_of r (enter rs m.index times), state_in after)
  pub carried : r.instructions ≡ m.instructions + 1
  pub rungs : r.rungs ≡ m.rungs + entered
  pub moved : after.moved ≤ before.moved + 1
  pub same_table : after.table.ghost_name ≡ before.table.ghost_name
  pub same_timers : after.timers.ghost_name ≡ before.timers.ghost_name

-- whether the record `next` begins at the index,
abbrev pub begins_here : List ℕ → ℕ → ℕ → Bool
begins_here os next index = ltb next (length os) && eqb (get_or os next 0) index

-- and 1 where it does, and else 0
unfoldable pub starts_here : List ℕ → ℕ → ℕ → ℕ
starts_here os next index = bit (begins_here os next index)

-- the times entered with `entered` more for the record `next`
unfoldable pub counted : List ℕ → ℕ → ℕ → List ℕ
counted times next entered = set times next (get_or times next 0 + entered)

-- offsets that ascend from `least` on
unfoldable pub ascending : ℕ → List ℕ → Type 0
ascending least [] = Unit {0}
ascending least (o ∷ os) = (least ≤ o) × ascending (suc o) os

-- how many offsets stand before the first that is not below the index
unfoldable pub before : List ℕ → ℕ → ℕ
before [] index = 0
before (o ∷ os) index = elim (ltb o index) [ true ↦ suc (before os index) | false ↦ 0 ]

pub record Sought (os : List ℕ) (index r : ℕ) : Type 0 where
  pub same : ascending 0 os → r ≡ before os index
  pub within : r ≤ length os

-- the place at index 0
unfoldable pub first_place : List ℕ → Place
first_place os = record { index = 0; next = 0; entered = begins_here os 0 0 }

-- the place at the index after a place: on a straight run the record is carried along, and else it is found anew
pub record Followed (os : List ℕ) (p : Place) (index : ℕ) (r : Place) : Type 0 where
  pub here : r.index ≡ index
  pub straight : index ≡ p.index + 1 → r.next ≡ p.next + bit p.entered
  pub found : (index ≡ p.index + 1 → ⊥) → Sought os index r.next
  pub starts : r.entered ≡ begins_here os r.next index

unfoldable pub first_machine : MachineStruct
first_machine = record { accumulator = false; index = 0; instructions = 0; rungs = 0 }

-- the machine is before the end, and the watchdog has not come
unfoldable pub runs_on : ℕ → ℕ → MachineStruct → Bool
runs_on end watchdog m = not (leb end m.index) && not (eqb m.instructions watchdog)

-- a machine's counts, with how many times variables have been turned over
abbrev pub counts_of : MachineStruct → ℕ → CountsStruct
counts_of m moved = record { instructions = m.instructions; rungs = m.rungs; moved = moved }

unfoldable pub halted_at : ℕ → ℕ → MachineStruct → HaltCase CountsStruct
halted_at end moved m = elim (leb end m.index) [ true ↦ EndedCase (counts_of m moved) | false ↦ StoppedCase (counts_of m moved) ]

-- a list's words and offsets are scanned as the list, from the state s; the bytes u and the timer records ts are left
pub record Ran (ws os before : List ℕ) (s : State) (watchdog : ℕ) (r : HaltCase CountsStruct) (after u : List ℕ) (ts : List Timer) : Type 0 where
  pub same : (l : InstructionList) → decode_code ws ≡ some l.code → offsets l.records ≡ os → ascending 0 os
      → ListScanDone (scan_ends (scan_list l watchdog s)) (Ok r) u ts before after

-- the same of a state that is lent, which is left over the same table and timer records
pub record Scanned (ws os before : List ℕ) (s : StateStruct) (watchdog : ℕ) (r : HaltCase CountsStruct) (after : List ℕ) (u : StateStruct) : Type 0 where
  pub ran : Ran ws os before (state_in s) watchdog r after u.table.now (timers_in u.timers.now)
  pub same_table : u.table.ghost_name ≡ s.table.ghost_name
  pub same_timers : u.timers.ghost_name ≡ s.timers.ghost_name
