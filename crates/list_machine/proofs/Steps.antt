-- Laws of the machine after one instruction. Assumes nothing.
use Prim.Native.Nat.{ℕ, ◌+◌, ◌≤◌}
use mathlib.Core.Path.{◌≡◌, refl}
use mathlib.Core.Bool.{Bool, true, false}
use mathlib.Core.Option.{some}
use mir.Val.{bool_byte}
use Rattle.questions.specs.Tests.{bit}
use Rattle.table.specs.Parts.{state_in}
use Rattle.table.specs.declared.State.{State as StateStruct}
use Rattle.list_definitions.specs.Instruction.{Instr, decode_instr}
use Rattle.list_definitions.specs.Machine.{count, step, does}
use Rattle.list_instructions.specs.Parts.{Did}
use Rattle.list_instructions.specs.declared.Effect.{Effect}
use Rattle.list_machine.specs.Parts.{machine_of, Stepped}
use Rattle.list_machine.specs.declared.Machine.{Machine as MachineStruct}

-- what `u32::from` gives for a bool
pub same_bit : (b : Bool) → bool_byte b ≡ bit b
same_bit true = refl
same_bit false = refl

-- the machine after an instruction, with its counts: by what the instruction does, whatever becomes of V and the tick where the word holds none
module _ (w entered : ℕ) (m : MachineStruct) (before : StateStruct) (effect : Effect) (after : StateStruct) where
  pub stepped_by : ((i : Instr) → decode_instr w ≡ some i → (pc : ℕ) → m.index + 1 ≡ pc + 1
      → does i m.accumulator (state_in before) pc ≡ record { accumulator = effect.accumulator; state = state_in after; index = effect.index })
      → after.moved ≤ before.moved + 1 → after.table.ghost_name ≡ before.table.ghost_name → after.timers.ghost_name ≡ before.timers.ghost_name
      → Stepped w entered m before (record { accumulator = effect.accumulator; index = effect.index; instructions = m.instructions + 1; rungs = m.rungs + entered }) after
  unfolding step count machine_of
  stepped_by same few table timers = record {
    same = λ i e rs starts times. rw (same i e m.index refl, ← starts);
    carried = refl;
    rungs = refl;
    moved = few;
    same_table = table;
    same_timers = timers;
  }

  pub stepped : Did w m.accumulator (m.index + 1) before effect after
      → Stepped w entered m before (record { accumulator = effect.accumulator; index = effect.index; instructions = m.instructions + 1; rungs = m.rungs + entered }) after
  stepped d = stepped_by d.same d.few d.same_table d.same_timers
