-- What carrying out an instruction promises. Nothing here is a sentence of document 01. Assumes nothing.
use Rattle.std.specs.Prelude.{ℕ, ◌+◌, ◌≤◌, ◌≡◌, Bool}
use Rattle.std.proofs.Math.Option.{some}
use Rattle.table.specs.Parts.{state_in}
use Rattle.table.specs.declared.State.{State as StateStruct}
use Rattle.list_definitions.specs.Instruction.{Instr, decode_instr}
use Rattle.list_definitions.specs.Machine.{does}
use Rattle.list_instructions.specs.declared.Effect.{Effect}

-- a word that holds an instruction does what the instruction does, from accumulator v; any word turns over one variable at most, and leaves the state over the
-- same lent table and timer records, with V and the tick as they were
pub record Did (word : ℕ) (v : Bool) (straight : ℕ) (before : StateStruct) (r : Effect) (after : StateStruct) : Type 0 where
  pub same : (i : Instr) → decode_instr word ≡ some i → (pc : ℕ) → straight ≡ pc + 1
      → does i v (state_in before) pc ≡ record { accumulator = r.accumulator; state = state_in after; index = r.index }
  pub few : after.moved ≤ before.moved + 1
  pub same_table : after.table.ghost_name ≡ before.table.ghost_name
  pub same_timers : after.timers.ghost_name ≡ before.timers.ghost_name
  pub vars : after.vars ≡ before.vars
  pub tick : after.tick ≡ before.tick
