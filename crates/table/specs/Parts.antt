-- What functions that change the table or the state promise their callers. Assumes nothing.
use Rattle.std.specs.Prelude.{ℕ, ◌≡◌, List}
use Rattle.table.specs.Timer.{Timer}
use Rattle.table.specs.State.{State, state_with}
use Rattle.table.specs.TimerRecords.{timers_in}
use Rattle.table.specs.declared.State.{State as StateStruct}

-- from bytes t and a sum, the bytes u and the sum r of a state that was changed so, whatever its timer records and its tick, which the function is not told
pub record TableChanged (vars : ℕ) (t : List ℕ) (moved : ℕ) (change : State → State) (r : ℕ) (u : List ℕ) : Type 0 where
  pub same : (timers : List Timer) (now : ℕ) → state_with vars u timers now r ≡ change (state_with vars t timers now moved)

-- the state that is lent
abbrev pub state_in : StateStruct → State
state_in s = state_with s.vars s.table.now (timers_in s.timers.now) s.tick s.moved

-- a state that was changed so, over the same lent table and timer records, with V and the tick as they were
pub record Changed (before after : StateStruct) (change : State → State) : Type 0 where
  pub same : state_in after ≡ change (state_in before)
  pub same_table : after.table.ghost_name ≡ before.table.ghost_name
  pub same_timers : after.timers.ghost_name ≡ before.timers.ghost_name
  pub vars : after.vars ≡ before.vars
  pub tick : after.tick ≡ before.tick
